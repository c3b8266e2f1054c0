use Rattle.std.proofs.Common.{◌≡◌}
use Rattle.formula.specs.Meant.{starts_of}
use Rattle.formula.proofs.Ends.{begun}
use Rattle.formula.proofs.watch.FormulaMonitor.start.Given as goal

-- the comparisons below i that are true
abbrev pub invariant-loop-i : goal.invariant-loop-i
invariant-loop-i l = l.code ≡ begun (starts_of l.self) l.self.table.nodes l.i
