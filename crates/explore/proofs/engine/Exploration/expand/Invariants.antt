use Rattle.rows.specs.Listed.{listed}
use Rattle.explore.specs.Entries.{rows_of}
use Rattle.explore.specs.Upto.{Upto}
use Rattle.explore.specs.Tables.{GoesOn}
use Rattle.explore.proofs.engine.Exploration.expand.Given as goal

abbrev pub invariant-loop-label : goal.invariant-loop-label
invariant-loop-label g l =
    Upto (g.M.Machine.system l.self.machine.now) (rows_of g.R.Keyed.keyed g.R.Traced.found_from g.R.Traced.found_by (listed l.self.list.now)) l.i l.label
    × GoesOn l.initial.self l.self
