-- Worked examples: the pairs of small traces.
use Rattle.std.specs.Prelude.{◌≡◌, ℕ, zero, suc, Bool, true, false, cond, not, ◌&&◌, ◌||◌, List, [], ◌∷◌, length, ℤ, pos, ◌==◌}
use Rattle.std.proofs.lemmas.Bool.{false≢true}
use Rattle.events.specs.declared.event.Action.{Action}
use Rattle.events.specs.declared.event.Event.{Event}
use Rattle.events.specs.Events.{event_at}
use Rattle.events.specs.Noting.{Opening, opened}
use Rattle.order.specs.Noted.{noted}
use Rattle.order.specs.Reached.{same_counts}
use Rattle.explore.specs.Rows.{Row}
use Rattle.explore.specs.Paths.{path}
use Rattle.explore.specs.Rounds.{computed}
use Rattle.monitor.specs.Meaning.{Meaning}
use Rattle.pairs.specs.declared.pair.Pair.{Pair}
use Rattle.pairs.specs.Pairs.{pair_of, pairs, hit, same}

-- thread t writes v to variable x, acquires lock l, releases it, as the event at place p of the thread
abbrev writes : ℕ → ℕ → ℕ → ℕ → Event
writes t p x v = event_at p (record { thread = t; kind = 2; subject = x; value = pos v })

abbrev acquires : ℕ → ℕ → ℕ → Event
acquires t p l = event_at p (record { thread = t; kind = 3; subject = l; value = pos 0 })

abbrev releases : ℕ → ℕ → ℕ → Event
releases t p l = event_at p (record { thread = t; kind = 4; subject = l; value = pos 0 })

-- never bad, and the code stays
abbrev pub calm : Meaning
calm = record { start = 0; step = λ code a. code; bad = λ code. false; stays = λ code a h. h }

-- code 1 where thread 1 has the first event, code 2 where another has it
abbrev begins : ℕ → Action → ℕ
begins zero a = cond (a.thread == 1) 1 2
begins (suc code) a = suc code

pub begins_stays : (code : ℕ) (a : Action) → (code == 1) ≡ true → (begins code a == 1) ≡ true
begins_stays zero a h = absurd (false≢true h)
begins_stays (suc code) a h = h

-- bad where thread 1 has the first event
abbrev pub begun : Meaning
begun = record { start = 0; step = begins; bad = λ code. (code == 1); stays = begins_stays }

-- two threads with room for 8 events
abbrev two : List ℤ → Opening
two starts = opened 2 starts 8

abbrev listing : List Event → Meaning → List (Row Pair)
listing es m = computed (pairs es 2 m) same (length es)

-- the rows have these nodes, in this order
abbrev nodes : List (Row Pair) → List Pair → Bool
nodes [] [] = true
nodes [] (y ∷ ys) = false
nodes (x ∷ xs) [] = false
nodes (x ∷ xs) (y ∷ ys) = same x.node y && nodes xs ys

abbrev any_hit : List Event → Meaning → List (Row Pair) → Bool
any_hit es m [] = false
any_hit es m (x ∷ xs) = hit es m x.node || any_hit es m xs

-- for each row, 1 where it is a hit
abbrev marks : List Event → Meaning → List (Row Pair) → List ℕ
marks es m [] = []
marks es m (x ∷ xs) = cond (hit es m x.node) 1 0 ∷ marks es m xs

-- the counts of threads 0 and 1
abbrev cut : ℕ → ℕ → List ℕ
cut a b = a ∷ b ∷ 0 ∷ 0 ∷ 0 ∷ 0 ∷ 0 ∷ 0 ∷ []

-- each of two threads writes a variable of its own
abbrev apart : List Event
apart = writes 0 1 0 7 ∷ writes 1 1 1 9 ∷ []

-- four pairs, the last by thread 0 and then thread 1; none is a hit
abbrev pub lists_apart : Bool
lists_apart =
    let rows : List (Row Pair) = listing apart calm in
    noted (two (pos 0 ∷ pos 0 ∷ [])) apart
    && (nodes rows (pair_of (cut 0 0) 0 ∷ pair_of (cut 1 0) 0 ∷ pair_of (cut 0 1) 0 ∷ pair_of (cut 1 1) 0 ∷ [])
    && (same_counts (path rows 3) (0 ∷ 1 ∷ []) && not (any_hit apart calm rows)))

-- where thread 1 must not begin, five pairs; the last alone is a hit, by thread 1 and then thread 0: the bad code alone is none
abbrev pub finds_begun : Bool
finds_begun =
    let rows : List (Row Pair) = listing apart begun in
    nodes rows (pair_of (cut 0 0) 0 ∷ pair_of (cut 1 0) 2 ∷ pair_of (cut 0 1) 1 ∷ pair_of (cut 1 1) 2 ∷ pair_of (cut 1 1) 1 ∷ [])
    && (same_counts (marks apart begun rows) (0 ∷ 0 ∷ 0 ∷ 0 ∷ 1 ∷ []) && same_counts (path rows 4) (1 ∷ 0 ∷ []))

-- thread 0 takes locks 0 and 1 and frees 1 and 0; then thread 1 takes 1 and 0 and frees 0 and 1
abbrev crossed : List Event
crossed =
    acquires 0 1 0 ∷ acquires 0 2 1 ∷ releases 0 3 1 ∷ releases 0 4 0
    ∷ acquires 1 1 1 ∷ acquires 1 2 0 ∷ releases 1 3 0 ∷ releases 1 4 1 ∷ []

-- 19 pairs; none is a hit
abbrev pub lists_crossed : Bool
lists_crossed =
    let rows : List (Row Pair) = listing crossed calm in
    noted (two []) crossed && (length rows == 19 && not (any_hit crossed calm rows))

abbrev pub worked : Bool
worked = lists_apart && (finds_begun && lists_crossed)
