use Rattle.std.proofs.Common.{◌≡◌, ℕ, ◌<◌, length, get_or}
use Rattle.order.specs.Sound.{count}
use Rattle.mapping.proofs.places.counts.Given as goal

-- the events so far are counted
abbrev pub invariant-loop-event : goal.invariant-loop-event
invariant-loop-event l = (length l.counts ≡ 8) × ((t : ℕ) → t < 8 → get_or l.counts t 0 ≡ count l.events t l.event-index)
