-- The rows of the latest writes and acquires, and the row that an event gets from them.
use Rattle.std.specs.Prelude.{ℕ, max, cond, List, [], Some, None, Option, ◌==◌, slice_index, slice_index_or, slice_set}
use Rattle.events.specs.declared.event.Event.{Event}
use Rattle.order.specs.declared.row.Row.{Row}
use Rattle.mapping.specs.declared.latest.Latest.{Latest}

-- the row of what feeds the event: that of the latest write of its variable a read, that of the latest acquire of its lock a release
abbrev pub feeder : Latest → Event → Option Row
feeder s e =
    cond (e.kind == 1) (slice_index_or s.writes e.subject None)
    (cond (e.kind == 4) (slice_index_or s.acquires e.subject None) None)

-- thread and place of the row's event, or 255 and 0 where there is none
abbrev pub source_of : Option Row → ℕ × ℕ
source_of (Some w) = (w.event.thread, w.event.place)
source_of None = (255, 0)

-- the clock of the event's thread
abbrev pub thread_clock : Latest → Event → List ℕ
thread_clock s e = slice_index_or s.clocks e.thread []

-- the count for thread j, where it is n before what feeds the event is met
abbrev pub met : Option Row → ℕ → ℕ → ℕ
met (Some w) j n = max n (slice_index w.clock j)
met None j n = n

-- the table with the row at the event's subject, where the event is of this kind
abbrev pub with_latest : ℕ → List (Option Row) → Event → Row → List (Option Row)
with_latest k table e w = cond (e.kind == k) (slice_set table e.subject (Some w)) table

abbrev pub with_write : List (Option Row) → Event → Row → List (Option Row)
with_write = with_latest 2

abbrev pub with_acquire : List (Option Row) → Event → Row → List (Option Row)
with_acquire = with_latest 3
