use Rattle.calls.proofs.Held.{lawful, lawful_from_opening}
use Rattle.calls.proofs.laws.every_list.Goals as goal

pub returns : goal.returns
returns c = record { noted = lawful; opened = lawful_from_opening }
