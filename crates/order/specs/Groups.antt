-- Groups: events of one variable or lock that belong together.
use Rattle.std.specs.Prelude.{◌≡◌, ℕ, ◌<◌, ◌⊎◌, List}
use Rattle.events.specs.declared.event.Event.{Event}
use Rattle.order.specs.Trace.{Reads, Writes, Acquires, Object, Of}
use Rattle.order.specs.Trace.Object.{variable}
use Rattle.order.specs.Before.{Feeds}

-- Groups by name: `led e` is the write e with the reads that it feeds, or the acquire e with its release, and the acquire alone where it has none;
-- `starting x` is the reads of variable x ahead of its first write, or all where it has none.
pub data Group : Type 0 where
  led : ℕ → Group
  starting : ℕ → Group

-- e is a write or an acquire
abbrev pub Leads : List Event → ℕ → Type 0
Leads es e = (x : ℕ) × (Writes es x e ⊎ Acquires es x e)

-- event i is in the group; an internal event is in none
abbrev pub Member : List Event → Group → ℕ → Type 0
Member es (led e) i = (Leads es e × (i ≡ e)) ⊎ Feeds es e i
Member es (starting x) i = Reads es x i × ((k : ℕ) → k < i → Writes es x k → ⊥)

-- event i is an event of the group's variable or lock
abbrev pub Touches : List Event → Group → ℕ → Type 0
Touches es (led e) i = (o : Object) × Of es o e × Of es o i
Touches es (starting x) i = Of es (variable x) i
