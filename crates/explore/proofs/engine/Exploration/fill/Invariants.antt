use Rattle.std.proofs.Common.{length, ◌-◌}
use Rattle.rows.specs.Listed.{lent, listed}
use Rattle.explore.specs.Entries.{rows_of}
use Rattle.explore.specs.Upto.{Upto}
use Rattle.explore.specs.Tables.{GoesOn}
use Rattle.explore.proofs.engine.Exploration.fill.Given as goal

abbrev pub invariant-loop-i : goal.invariant-loop-i
invariant-loop-i g l =
    Upto (g.M.Machine.system l.self.machine.now) (rows_of g.R.Keyed.keyed g.R.Traced.found_from g.R.Traced.found_by (listed l.self.list.now)) l.i 0 × GoesOn l.fn.self l.self

-- the list never passes the rows that were lent
abbrev pub decreases-loop-i : goal.decreases-loop-i
decreases-loop-i g l = length (lent l.fn.self.list.now) - l.i
