-- Which event feeds which, and which is before which.
use Rattle.std.specs.Prelude.{◌≡◌, ℕ, ◌<◌, ◌⊎◌, List, length}
use Rattle.events.specs.declared.event.Event.{Event}
use Rattle.order.specs.Trace.{thread_at, place_at, Reads, Writes, Acquires, Releases, Of}
use Rattle.order.specs.Trace.Object.{lock}

-- none of the events noted after e and ahead of f is a P
abbrev pub NoneBetween : ℕ → ℕ → (ℕ → Type 0) → Type 0
NoneBetween e f P = (k : ℕ) → e < k → k < f → P k → ⊥

-- e feeds f
pub data Feeds (es : List Event) (e f : ℕ) : Type 0 where
  -- a write feeds the reads of its variable that are noted after it and ahead of the next write
  value : (x : ℕ) → Writes es x e → Reads es x f → e < f → NoneBetween e f (Writes es x) → Feeds es e f
  -- an acquire feeds its release, the next event of its lock
  hold : (l : ℕ) → Acquires es l e → Releases es l f → e < f → NoneBetween e f (Of es (lock l)) → Feeds es e f

-- e is before f
pub data Before (es : List Event) : ℕ → ℕ → Type 0 where
  -- of one thread, at the smaller place
  in_thread : {e f : ℕ} → e < length es → f < length es → thread_at es e ≡ thread_at es f → place_at es e < place_at es f → Before es e f
  fed : {e f : ℕ} → Feeds es e f → Before es e f
  chain : {e f g : ℕ} → Before es e f → Before es f g → Before es e g

-- e is f or before f
abbrev pub UpTo : List Event → ℕ → ℕ → Type 0
UpTo es e f = (e ≡ f) ⊎ Before es e f
