-- What a trace's fields say, and when they are what the opening and the noted events make them.
use Rattle.std.specs.Prelude.{◌≡◌, ℕ, ◌<◌, List, length, ℤ, pos, slice_index, slice_index_or}
use Rattle.events.specs.declared.event.Event.{Event}
use Rattle.events.specs.declared.lock.Lock.{Lock}
use Rattle.events.specs.declared.lock.Lock.TheVariants.{Free}
use Rattle.events.specs.Noting.{Opening, value_now, lock_now, count_of}
use Rattle.rows.specs.declared.list.Rows.{Rows}
use Rattle.rows.specs.Listed.{lent}
use Rattle.trace.specs.Settings.{opening_with}
use Rattle.trace.specs.declared.state.State.{State}

-- what the trace was opened with
abbrev pub opening_in : State → Rows Event → Opening
opening_in s rows = opening_with s.setting (length (lent rows))

-- each variable has its value after the events
abbrev pub Valued : Opening → List Event → List ℤ → Type 0
Valued o es values = (x : ℕ) → x < length o.starts → slice_index_or values x (pos 0) ≡ value_now o es x

-- each lock is as the events leave it
abbrev pub Locked : List Event → List Lock → Type 0
Locked es locks = (l : ℕ) → l < 16 → slice_index_or locks l Free ≡ lock_now es l

-- the events of each thread are counted
abbrev pub Counted : List Event → List ℕ → Type 0
Counted es counts = (t : ℕ) → t < 8 → slice_index counts t ≡ count_of t es
