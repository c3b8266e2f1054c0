use Rattle.pairs.proofs.laws.agreement.Goals as goal
use Rattle.pairs.proofs.Agreement.{agreement}

pub returns : goal.returns
returns g c = agreement
