-- The worked traces. Events are written by thread and subject, and value where they have one.
use Rattle.std.specs.Prelude.{ℕ, Bool, not, ◌&&◌, List, [], ◌∷◌, ◌++◌, length, ℤ, pos, codes, ◌==◌, slice_index, slice_index_or}
use Rattle.std.proofs.Common.{arith}
use Rattle.events.specs.declared.event.Action.{Action}
use Rattle.events.specs.declared.event.Event.{Event}
use Rattle.events.specs.Noting.{Opening}
use Rattle.grammar.specs.Recording.{Formula, gt, mark, neg, once, implies, Recording, flat, pieces}
use Rattle.order.specs.declared.row.Row.{Row}
use Rattle.order.specs.Tests.{accepts, before, in_cut}
use Rattle.order.specs.Cuts.{empty_cut}
use Rattle.order.specs.Maps.{no_row, rows}
use Rattle.order.specs.Reached.{same_counts}
use Rattle.monitor.specs.Meaning.{Meaning}
use Rattle.formula.specs.declared.node.Node.{Node}
use Rattle.formula.specs.declared.node.Node.TheVariants.{Gt, Mark, Not, Once, Implies}
use Rattle.formula.specs.Table.{Tabled}
use Rattle.automaton.specs.Meant.{meant_by}
use Rattle.worked.specs.Noting.{read, write, acquire, release, trace_of, events_of, all_noted}
use Rattle.worked.specs.Judging.{watching, none, found, room_refusal}
use Rattle.worked.specs.Replaying.{refused_with}

-- the texts, each with a newline behind
abbrev lined : List (List ℕ) → List ℕ
lined [] = []
lined (text ∷ texts) = text ++ 10 ∷ lined texts

-- the text is that of the recording
abbrev writes : Recording → List ℕ → Bool
writes r text = same_counts (flat (pieces r)) text

-- where variable 1 is above 0, variable 0 was so at some time; and the table of this rule
abbrev flag_rule : Formula
flag_rule = implies (gt 1 (pos 0)) (once (gt 0 (pos 0)))

abbrev flag_nodes : List Node
flag_nodes = Implies 1 2 ∷ Gt 1 (pos 0) ∷ Once 3 ∷ Gt 0 (pos 0) ∷ []

-- both variables start at 0
abbrev flag_starts : List ℤ
flag_starts = pos 0 ∷ pos 0 ∷ []

abbrev flag_monitor : Meaning
flag_monitor = watching flag_starts flag_nodes 4 (omega arith)

-- no event has label 5; and the table of this rule
abbrev mark_rule : Formula
mark_rule = neg (mark 5)

abbrev mark_nodes : List Node
mark_nodes = Not 1 ∷ Mark 5 ∷ []

abbrev mark_monitor : Meaning
mark_monitor = watching [] mark_nodes 2 (omega arith)

-- The tables list the rules' subformulas in the order of their words.
abbrev pub RulesTabled : Type 0
RulesTabled = Tabled flag_nodes 4 flag_rule × Tabled mark_nodes 2 mark_rule

-- a recording of two threads under the flag rule
abbrev flagged : List Action → Recording
flagged actions = record { threads = 2; starts = flag_starts; actions = actions; rule = flag_rule }

-- 1. Thread 0 writes variable 0, thread 1 variable 1, and nothing keeps the writes in order: the run 1 0 breaks the rule. There are 5 pairs, since
-- the full cut has two codes, so that a room for 4 rows is refused with 22 and one for 5 is not.
abbrev racing : List Action
racing = write 0 0 7 ∷ write 1 1 9 ∷ []

abbrev racing_text : List ℕ
racing_text =
    lined (codes "(open 2 (0 0))" ∷ codes "(write 0 0 7)" ∷ codes "(write 1 1 9)" ∷ codes "(rule (implies (gt 1 0) (once (gt 0 0))))" ∷ [])

abbrev pub finds_race : Bool
finds_race =
    let o : Opening = trace_of 2 flag_starts in
    let es : List Event = events_of o racing in
    writes (flagged racing) racing_text
    && (all_noted o racing
    && (found es 2 flag_monitor 5 (1 ∷ 0 ∷ [])
    && (room_refusal es 2 flag_monitor 4 == 22 && room_refusal es 2 flag_monitor 5 == 0)))

-- 2. Thread 1 reads variable 0 ahead of its write. The write of 7 feeds the read, so there is one run and no violation, and 4 pairs. A replay of
-- 1 0 1 is refused at once, with 34: event 0 is before event 1, thread 1's first, and is not in the empty cut.
abbrev passing : List Action
passing = write 0 0 7 ∷ read 1 0 7 ∷ write 1 1 9 ∷ []

abbrev passing_text : List ℕ
passing_text =
    lined
    (codes "(open 2 (0 0))" ∷ codes "(write 0 0 7)" ∷ codes "(read 1 0 7)" ∷ codes "(write 1 1 9)"
    ∷ codes "(rule (implies (gt 1 0) (once (gt 0 0))))" ∷ [])

-- the row's clock begins with these two counts, and its source is this thread and place
abbrev says : Row → ℕ → ℕ → ℕ → ℕ → Bool
says w a b t p = slice_index w.clock 0 == a && (slice_index w.clock 1 == b && (w.source.0 == t && w.source.1 == p))

-- its map has three rows; the read's source is thread 0's event 1, and the writes have none
abbrev maps_passing : List Row → Bool
maps_passing m =
    (length m == 3)
    && (says (slice_index_or m 0 no_row) 1 0 255 0 && (says (slice_index_or m 1 no_row) 1 1 0 1 && says (slice_index_or m 2 no_row) 1 2 255 0))

abbrev pub orders_passing : Bool
orders_passing =
    let o : Opening = trace_of 2 flag_starts in
    let es : List Event = events_of o passing in
    writes (flagged passing) passing_text
    && (all_noted o passing
    && (none es 2 flag_monitor 4
    && (accepts es (0 ∷ 1 ∷ 1 ∷ [])
    && (not (accepts es (1 ∷ 0 ∷ 1 ∷ []))
    && (refused_with es 2 (1 ∷ 0 ∷ 1 ∷ []) 34 1
    && (before es 0 1 && (not (in_cut es empty_cut 0) && maps_passing (rows es 2))))))))

-- 3. Thread 1 writes 3; thread 0 writes 5 and reads it. Thread 1's write may stand first or last; between the write of 5 and its read it is
-- refused with 35, since the group of these two is open there.
abbrev pub keeps_reads : Bool
keeps_reads =
    let o : Opening = trace_of 2 (pos 0 ∷ []) in
    let actions : List Action = write 1 0 3 ∷ write 0 0 5 ∷ read 0 0 5 ∷ [] in
    let es : List Event = events_of o actions in
    all_noted o actions
    && (accepts es (1 ∷ 0 ∷ 0 ∷ [])
    && (accepts es (0 ∷ 0 ∷ 1 ∷ [])
    && (not (accepts es (0 ∷ 1 ∷ 0 ∷ []))
    && (refused_with es 2 (1 ∷ 0 ∷ 0 ∷ []) 0 0
    && (refused_with es 2 (0 ∷ 0 ∷ 1 ∷ []) 0 0
    && refused_with es 2 (0 ∷ 1 ∷ 0 ∷ []) 35 2)))))

-- 4. Thread 0 reads the starting value; thread 1 writes. The write may not stand first: the starting group is open until the read is in.
abbrev pub keeps_start : Bool
keeps_start =
    let o : Opening = trace_of 2 (pos 0 ∷ []) in
    let actions : List Action = read 0 0 0 ∷ write 1 0 4 ∷ [] in
    let es : List Event = events_of o actions in
    all_noted o actions
    && (accepts es (0 ∷ 1 ∷ []) && (not (accepts es (1 ∷ 0 ∷ [])) && refused_with es 2 (1 ∷ 0 ∷ []) 35 1))

-- 5. Thread 0 acquires a lock and releases it; thread 1 acquires it and holds it to the end. The lone acquire may stand last or first.
abbrev pub places_held : Bool
places_held =
    let o : Opening = trace_of 2 [] in
    let actions : List Action = acquire 0 0 ∷ release 0 0 ∷ acquire 1 0 ∷ [] in
    let es : List Event = events_of o actions in
    all_noted o actions
    && (accepts es (0 ∷ 0 ∷ 1 ∷ [])
    && (accepts es (1 ∷ 0 ∷ 0 ∷ [])
    && (refused_with es 2 (0 ∷ 0 ∷ 1 ∷ []) 0 0 && refused_with es 2 (1 ∷ 0 ∷ 0 ∷ []) 0 0)))

-- 6. Thread 0 takes locks 0 and 1 and frees 1 and 0; then thread 1 takes 1 and 0 and frees 0 and 1. No event has label 5, so no run violates;
-- there are 19 pairs, among them that where each thread holds one lock and neither can go on.
abbrev crossing : List Action
crossing =
    acquire 0 0 ∷ acquire 0 1 ∷ release 0 1 ∷ release 0 0
    ∷ acquire 1 1 ∷ acquire 1 0 ∷ release 1 0 ∷ release 1 1 ∷ []

abbrev crossing_text : List ℕ
crossing_text =
    lined
    (codes "(open 2 ())"
    ∷ codes "(acquire 0 0)" ∷ codes "(acquire 0 1)" ∷ codes "(release 0 1)" ∷ codes "(release 0 0)"
    ∷ codes "(acquire 1 1)" ∷ codes "(acquire 1 0)" ∷ codes "(release 1 0)" ∷ codes "(release 1 1)"
    ∷ codes "(rule (not (mark 5)))" ∷ [])

abbrev pub lists_crossed : Bool
lists_crossed =
    let o : Opening = trace_of 2 [] in
    writes (record { threads = 2; starts = []; actions = crossing; rule = mark_rule }) crossing_text
    && (all_noted o crossing && none (events_of o crossing) 2 mark_monitor 19)

-- 7. One thread without events, under an automaton with one state, the start state and the bad one: the empty run violates.
abbrev pub breaks_empty : Bool
breaks_empty = found [] 1 (meant_by 1 0 0 []) 1 []

abbrev pub worked : Bool
worked =
    finds_race && (orders_passing && (keeps_reads && (keeps_start && (places_held && (lists_crossed && breaks_empty)))))
