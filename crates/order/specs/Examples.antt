-- Worked examples: what the tests compute of small traces.
use Rattle.std.specs.Prelude.{ℕ, Bool, not, ◌&&◌, List, [], ◌∷◌, length, ℤ, pos, ◌==◌, slice_index, slice_index_or}
use Rattle.events.specs.declared.event.Action.{Action}
use Rattle.events.specs.declared.event.Event.{Event}
use Rattle.events.specs.Noting.{Opening, opened, refused, extended}
use Rattle.order.specs.declared.row.Row.{Row}
use Rattle.order.specs.Tests.{accepts, consistent}
use Rattle.order.specs.Noted.{noted}
use Rattle.order.specs.Maps.{no_row, rows}
use Rattle.order.specs.Reached.{cuts_reached}

-- what a thread does: reads a value of a variable, writes it, acquires a lock, releases it
abbrev reads : ℕ → ℕ → ℕ → Action
reads t x v = record { thread = t; kind = 1; subject = x; value = pos v }

abbrev writes : ℕ → ℕ → ℕ → Action
writes t x v = record { thread = t; kind = 2; subject = x; value = pos v }

abbrev acquires : ℕ → ℕ → Action
acquires t l = record { thread = t; kind = 3; subject = l; value = pos 0 }

abbrev releases : ℕ → ℕ → Action
releases t l = record { thread = t; kind = 4; subject = l; value = pos 0 }

-- the list es, and then what is noted of the actions
abbrev noted_of : Opening → List Event → List Action → List Event
noted_of o es [] = es
noted_of o es (a ∷ acts) = noted_of o (extended (refused o es a) es a) acts

-- two threads with room for 8 events
abbrev two : List ℤ → Opening
two starts = opened 2 starts 8

abbrev events : List ℤ → List Action → List Event
events starts acts = noted_of (two starts) [] acts

-- every action is noted
abbrev all_noted : List ℤ → List Action → Bool
all_noted starts acts = length (events starts acts) == length acts && noted (two starts) (events starts acts)

-- thread 1 writes; thread 0 writes and reads what it wrote
abbrev write_apart : List Action
write_apart = writes 1 0 3 ∷ writes 0 0 5 ∷ reads 0 0 5 ∷ []

-- thread 1's write may stand first or last, and not between the write and its read
abbrev pub keeps_reads : Bool
keeps_reads =
    let start : List ℤ = pos 0 ∷ [] in
    let es : List Event = events start write_apart in
    all_noted start write_apart
    && (accepts es (1 ∷ 0 ∷ 0 ∷ []) && (accepts es (0 ∷ 0 ∷ 1 ∷ []) && (not (accepts es (0 ∷ 1 ∷ 0 ∷ []))
    && (consistent es (1 ∷ 2 ∷ 0 ∷ []) && not (consistent es (1 ∷ 0 ∷ 2 ∷ []))))))

-- thread 0 reads the starting value; thread 1 writes
abbrev read_start : List Action
read_start = reads 0 0 0 ∷ writes 1 0 4 ∷ []

-- the write may not stand first
abbrev pub keeps_start : Bool
keeps_start =
    let start : List ℤ = pos 0 ∷ [] in
    let es : List Event = events start read_start in
    all_noted start read_start && (accepts es (0 ∷ 1 ∷ []) && not (accepts es (1 ∷ 0 ∷ [])))

-- thread 0 acquires and releases a lock; thread 1 acquires it and holds it to the end
abbrev held_last : List Action
held_last = acquires 0 0 ∷ releases 0 0 ∷ acquires 1 0 ∷ []

-- the acquire alone may stand first too
abbrev pub places_held : Bool
places_held =
    let es : List Event = events [] held_last in
    all_noted [] held_last && (accepts es (0 ∷ 0 ∷ 1 ∷ []) && accepts es (1 ∷ 0 ∷ 0 ∷ []))

-- thread 0 writes; thread 1 reads that and writes another variable
abbrev pass_on : List Action
pass_on = writes 0 0 7 ∷ reads 1 0 7 ∷ writes 1 1 9 ∷ []

-- the row's clock begins with these two counts, and its source is this thread and place
abbrev says : Row → ℕ → ℕ → ℕ → ℕ → Bool
says w a b t p = slice_index w.clock 0 == a && (slice_index w.clock 1 == b && (w.source.0 == t && w.source.1 == p))

-- the read stands behind the write that feeds it, and so does the write behind the read
abbrev pub maps_passing : Bool
maps_passing =
    let start : List ℤ = pos 0 ∷ pos 0 ∷ [] in
    let es : List Event = events start pass_on in
    let m : List Row = rows es 2 in
    all_noted start pass_on
    && (accepts es (0 ∷ 1 ∷ 1 ∷ []) && (not (accepts es (1 ∷ 0 ∷ 1 ∷ []))
    && (says (slice_index_or m 0 no_row) 1 0 255 0 && (says (slice_index_or m 1 no_row) 1 1 0 1 && says (slice_index_or m 2 no_row) 1 2 255 0))))

-- thread 0 takes locks 0 and 1 and frees 1 and 0; then thread 1 takes 1 and 0 and frees 0 and 1
abbrev crossed : List Action
crossed =
    acquires 0 0 ∷ acquires 0 1 ∷ releases 0 1 ∷ releases 0 0
    ∷ acquires 1 1 ∷ acquires 1 0 ∷ releases 1 0 ∷ releases 1 1 ∷ []

abbrev pub counts_cuts : Bool
counts_cuts = all_noted [] crossed && cuts_reached (events [] crossed) 2 == 19

abbrev pub worked : Bool
worked = keeps_reads && (keeps_start && (places_held && (maps_passing && counts_cuts)))
