use Rattle.mapping.proofs.Filled.{Filled}
use Rattle.mapping.proofs.writing.fill.Given as goal

-- the tables and the rows of the events so far
abbrev pub invariant-loop-event : goal.invariant-loop-event
invariant-loop-event l = Filled l.events l.event-index l.latest l.rows l.initial.rows
