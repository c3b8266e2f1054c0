use Rattle.std.proofs.Common.{◌≡◌, take}
use Rattle.monitor.specs.Meaning.{ran}
use Rattle.monitor.proofs.runs.run.Given as goal

abbrev pub invariant-loop-action : goal.invariant-loop-action
invariant-loop-action g l = l.code ≡ ran (g.M.Monitor.meaning l.monitor) (take l.action-index l.actions)
