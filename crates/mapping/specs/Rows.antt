-- Which lists have a map, and where in it an event's row stands.
use Rattle.std.specs.Prelude.{ℕ, ◌<◌, ◌≤◌, List, length, nat_lt, slice_index_or}
use Rattle.std.specs.List.{count_by}
use Rattle.events.specs.declared.event.Event.{Event}
use Rattle.order.specs.Trace.{blank}
use Rattle.order.specs.Sound.{Sound}

-- an event within the limits of a trace
pub record Bounded (e : Event) : Type 0 where
  pub thread : e.thread < 8
  pub variable : e.subject < 32
  pub lock : 2 < e.kind → e.subject < 16
  pub first : 0 < e.place
  pub place : e.place ≤ 255

-- a sound list within the limits of a trace
pub record Mappable (es : List Event) : Type 0 where
  pub sound : Sound es
  pub bounded : (i : ℕ) → i < length es → Bounded (slice_index_or es i blank)

-- how many rows stand ahead of thread t's first: those of the events of the threads below t
unfoldable pub base : List Event → ℕ → ℕ
base es t = count_by (λ (e : Event). nat_lt e.thread t) es
