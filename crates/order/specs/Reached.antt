-- The cuts that paths reach, counted by computation. Here a cut is the list of its counts, by thread.
use Rattle.std.specs.Prelude.{ℕ, zero, suc, ◌+◌, Bool, true, false, cond, ◌&&◌, ◌||◌, List, [], ◌∷◌, length, replicate, ◌==◌, slice_index, slice_set}
use Rattle.events.specs.declared.event.Event.{Event}
use Rattle.order.specs.Trace.{thread_at}
use Rattle.order.specs.Cuts.{Cut}
use Rattle.order.specs.Tests.{some, may_follow}

abbrev pub cut_of : List ℕ → Cut
cut_of s t = slice_index s t

-- an event of thread t may follow
abbrev pub goes_on : List Event → List ℕ → ℕ → Bool
goes_on es s t = some (λ i. (thread_at es i == t) && may_follow es (cut_of s) i) (length es)

-- the cuts that one event, of a thread below n, leads to
abbrev pub steps : List Event → List ℕ → ℕ → List (List ℕ)
steps es s zero = []
steps es s (suc t) = cond (goes_on es s t) (slice_set s t (suc (slice_index s t)) ∷ steps es s t) (steps es s t)

abbrev pub same_counts : List ℕ → List ℕ → Bool
same_counts [] [] = true
same_counts [] (y ∷ ys) = false
same_counts (x ∷ xs) [] = false
same_counts (x ∷ xs) (y ∷ ys) = x == y && same_counts xs ys

abbrev pub among : List ℕ → List (List ℕ) → Bool
among s [] = false
among s (x ∷ xs) = same_counts s x || among s xs

-- those of the first list that are not in the second, and the second
abbrev pub merged : List (List ℕ) → List (List ℕ) → List (List ℕ)
merged [] ys = ys
merged (x ∷ xs) ys = cond (among x (merged xs ys)) (merged xs ys) (x ∷ merged xs ys)

-- the cuts one event on from those of the list, each once
abbrev pub onwards : List Event → ℕ → List (List ℕ) → List (List ℕ)
onwards es n [] = []
onwards es n (s ∷ ss) = merged (steps es s n) (onwards es n ss)

-- how many cuts there are in the list and up to k events on from it
abbrev pub up_to : List Event → ℕ → ℕ → List (List ℕ) → ℕ
up_to es n zero level = length level
up_to es n (suc k) level = length level + up_to es n k (onwards es n level)

-- how many cuts the events of n threads reach from the empty one, which is among them
abbrev pub cuts_reached : List Event → ℕ → ℕ
cuts_reached es n = up_to es n (length es) (replicate n 0 ∷ [])
