use Rattle.grammar.proofs.OneFormula.{one_rule}
use Rattle.grammar.proofs.OneText.{one_recording}
use Rattle.grammar.proofs.one_meaning.Goals as goal

pub returns : goal.returns
returns c = record { recordings = one_recording; rules = one_rule }
