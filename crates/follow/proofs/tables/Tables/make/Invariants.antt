use Rattle.events.specs.Noting.{Opening, Noted}
use Rattle.follow.specs.Made.{Small}
use Rattle.follow.proofs.Filling.{Filled}
use Rattle.follow.proofs.tables.Tables.make.Given as goal

abbrev pub invariant-loop-e : goal.invariant-loop-e
invariant-loop-e l = (o : Opening) → Small o → Noted o l.events → Filled l.events l.e-index l.tables
