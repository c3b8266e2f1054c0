use Rattle.formula.proofs.Scan.{Scanned}
use Rattle.formula.proofs.spell.spell.Given as goal

abbrev pub invariant-loop-at : goal.invariant-loop-at
invariant-loop-at l = Scanned l.text l.at l.spelling
