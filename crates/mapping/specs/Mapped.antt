-- What a map call answers, and what the rows hold afterwards.
use Rattle.std.specs.Prelude.{◌≡◌, ℕ, Bool, List, [], ◌∷◌, length, take, drop, Some, None, Ok, Err, Option, Result, nat_lt}
use Rattle.events.specs.declared.event.Event.{Event}
use Rattle.events.specs.First.{first_fit}
use Rattle.events.specs.Noting.{Opening, is_void, Noted}
use Rattle.order.specs.declared.row.Row.{Row}
use Rattle.order.specs.Maps.{MapOf}
use Rattle.order.specs.Runs.{RunAmong}
use Rattle.mapping.specs.declared.refusal.MapRefusal.{MapRefusal}
use Rattle.mapping.specs.declared.refusal.MapRefusal.TheVariants.{Void, Rows}

-- why no map of the events is written into this many rows, in the order of the numbers
abbrev pub map_tests : Opening → List Event → ℕ → List (Bool × MapRefusal)
map_tests o es room = (is_void o, Void) ∷ (nat_lt room (length es), Rows) ∷ []

-- a refusal leaves the rows; else there are as many rows as events, they are the map, and those beyond are left
abbrev pub MappedAs : Option MapRefusal → List Event → List Row → Result ℕ MapRefusal → List Row → Type 0
MappedAs (Some why) es before r after = (r ≡ Err why) × (after ≡ before)
MappedAs None es before r after =
    (r ≡ Ok (length es)) × MapOf es (take (length es) after) × (drop (length es) after ≡ drop (length es) before)

-- a map of the noted list es, of a trace opened with o, answers r, and the rows were before and are after
abbrev pub Mapped : Opening → List Event → List Row → Result ℕ MapRefusal → List Row → Type 0
Mapped o es before r after = MappedAs (first_fit (map_tests o es (length before))) es before r after

-- The rows that two granted maps write are equal exactly when one noted list, in the order noted, is a consistent run of the other.
abbrev pub EqualMapped : Type 0
EqualMapped = (o p : Opening) (es fs : List Event) → Noted o es → Noted p fs
    → (before after before' after' : List Row) (m n : ℕ) → Mapped o es before (Ok m) after → Mapped p fs before' (Ok n) after'
    → (take m after ≡ take n after' → RunAmong es fs) × (RunAmong es fs → take m after ≡ take n after')

-- A map has one answer, and leaves one table of rows.
abbrev pub OneMapped : Type 0
OneMapped = (o : Opening) (es : List Event) → Noted o es
    → (before after after' : List Row) (r s : Result ℕ MapRefusal) → Mapped o es before r after → Mapped o es before s after'
    → (r ≡ s) × (after ≡ after')
