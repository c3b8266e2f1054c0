use Rattle.std.proofs.Common.{◌≡◌, ℕ, List, length, take}
use Rattle.events.specs.declared.event.Event.{Event}
use Rattle.order.specs.Runs.{thread_list}
use Rattle.order.specs.Cuts.{Reach}
use Rattle.order.specs.Reached.{cut_of}
use Rattle.monitor.specs.Meaning.{ran}
use Rattle.follow.specs.Made.{MadeOf}
use Rattle.replay.specs.Outcome.{actions_of}
use Rattle.replay.proofs.steps.replay.Given as goal

abbrev pub invariant-loop-k : goal.invariant-loop-k
invariant-loop-k g l =
    ((es : List Event) → MadeOf es l.tables
    → (r : List ℕ) × Reach es r (cut_of l.cut) × (thread_list es r ≡ take l.k-counter l.threads) × (l.code ≡ ran (g.M.Monitor.meaning l.monitor) (actions_of es r)))
    × (length l.cut ≡ 8)
