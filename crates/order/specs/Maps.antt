-- The map of a noted list: what it says of each event, without the order in which the events were noted.
use Rattle.std.specs.Prelude.{◌≡◌, ℕ, zero, suc, ◌<◌, cond, ◌⊎◌, List, [], ◌∷◌, ◌++◌, map, length, ◌==◌, slice_index, slice_index_or}
use Rattle.std.specs.List.{range_with_len}
use Rattle.events.specs.declared.event.Event.{Event}
use Rattle.order.specs.declared.row.Row.{Row}
use Rattle.order.specs.Trace.{blank, thread_at, place_at}
use Rattle.order.specs.Before.{Feeds}
use Rattle.order.specs.Clocks.{Counts, clock_at}
use Rattle.order.specs.Tests.{feeds}

-- thread and place of the event that feeds event i, or 255 and 0 where nothing does
abbrev pub Source : List Event → ℕ → ℕ → ℕ → Type 0
Source es i t p =
    ((e : ℕ) × Feeds es e i × (t ≡ thread_at es e) × (p ≡ place_at es e))
    ⊎ (((e : ℕ) → Feeds es e i → ⊥) × (t ≡ 255) × (p ≡ 0))

-- w is the row of event i
pub record RowOf (es : List Event) (i : ℕ) (w : Row) : Type 0 where
  pub event : w.event ≡ slice_index_or es i blank
  pub source : Source es i w.source.0 w.source.1
  pub width : length w.clock ≡ 8
  pub clock : (t : ℕ) → t < 8 → Counts es i t (slice_index w.clock t)

-- read only past the end of a map
abbrev pub no_row : Row
no_row = record { event = blank; source = (0, 0); clock = [] }

-- by thread, then by place
abbrev pub Ahead : Row → Row → Type 0
Ahead v w = (v.event.thread < w.event.thread) ⊎ ((v.event.thread ≡ w.event.thread) × (v.event.place < w.event.place))

-- m is the map of es: a row for each event and for nothing else, in order
pub record MapOf (es : List Event) (m : List Row) : Type 0 where
  pub ascends : (j k : ℕ) → j < k → k < length m → Ahead (slice_index_or m j no_row) (slice_index_or m k no_row)
  pub each : (i : ℕ) → i < length es → (k : ℕ) × (k < length m) × RowOf es i (slice_index_or m k no_row)
  pub only : (k : ℕ) → k < length m → (i : ℕ) × (i < length es) × RowOf es i (slice_index_or m k no_row)

-- The map as it is computed. The source of event i, among the first k events:
abbrev pub source : List Event → ℕ → ℕ → ℕ × ℕ
source es i zero = (255, 0)
source es i (suc k) = cond (feeds es k i) (thread_at es k, place_at es k) (source es i k)

abbrev pub row : List Event → ℕ → Row
row es i = record {
  event = slice_index_or es i blank;
  source = source es i i;
  clock = map (clock_at es i) (range_with_len 0 8);
}

-- m, and then the rows of thread t's events among the first k
abbrev pub own_rows : List Event → ℕ → List Row → ℕ → List Row
own_rows es t m zero = m
own_rows es t m (suc k) = cond (thread_at es k == t) (own_rows es t m k ++ row es k ∷ []) (own_rows es t m k)

-- the rows of the threads below n
abbrev pub rows : List Event → ℕ → List Row
rows es zero = []
rows es (suc t) = own_rows es t (rows es t) (length es)
