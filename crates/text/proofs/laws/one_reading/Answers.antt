use Rattle.text.proofs.OneReading.{one_reading}
use Rattle.text.proofs.laws.one_reading.Goals as goal

pub returns : goal.returns
returns c = one_reading
