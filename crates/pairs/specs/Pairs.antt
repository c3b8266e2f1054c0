-- The pairs of a cut and a code, as a system to explore. A pair's cut is the list of its counts, by thread.
use Rattle.std.specs.Prelude.{ℕ, zero, suc, ◌+◌, Bool, true, false, ◌&&◌, List, length, replicate, Some, None, Option, ◌==◌, slice_index, slice_index_or, slice_set}
use Rattle.events.specs.declared.event.Event.{Event}
use Rattle.events.specs.Events.{action_of}
use Rattle.order.specs.Trace.{blank, thread_at}
use Rattle.order.specs.Tests.{every, in_cut, may_follow}
use Rattle.order.specs.Reached.{cut_of, same_counts}
use Rattle.explore.specs.System.{System}
use Rattle.monitor.specs.Meaning.{Meaning}
use Rattle.pairs.specs.declared.pair.Pair.{Pair}

abbrev pub pair_of : List ℕ → ℕ → Pair
pair_of cut code = record { cut = cut; code = code }

-- the number of thread t's event that may follow the cut, among the first k; there is one at most, the thread's next
abbrev pub follower : List Event → List ℕ → ℕ → ℕ → Option ℕ
follower es c t zero = None
follower es c t (suc k) =
    elim (thread_at es k == t) [
      | true ↦ elim (may_follow es (cut_of c) k) [ true ↦ Some k | false ↦ follower es c t k ]
      | false ↦ follower es c t k
    ]

-- one more event of thread t
abbrev pub advanced : List ℕ → ℕ → List ℕ
advanced c t = slice_set c t (slice_index c t + 1)

-- the pair after thread t's event e
abbrev pub moved : Meaning → Pair → ℕ → Event → Pair
moved m x t e = pair_of (advanced x.cut t) (m.step x.code (action_of e))

abbrev pub moved_by : List Event → Meaning → Pair → ℕ → Option ℕ → Option Pair
moved_by es m x t None = None
moved_by es m x t (Some i) = Some (moved m x t (slice_index_or es i blank))

-- the empty cut, with the code that a run begins with
abbrev pub first_pair : Meaning → Pair
first_pair m = pair_of (replicate 8 0) m.start

-- The pairs of the events es of n threads, under a monitor that means m: thread t leads on by its next event, where that may follow the cut.
abbrev pub pairs : List Event → ℕ → Meaning → System Pair
pairs es n m = record {
  first = first_pair m;
  labels = n;
  next = λ x t. moved_by es m x t (follower es x.cut t (length es));
}

-- all events are in the cut
abbrev pub full : List Event → List ℕ → Bool
full es c = every (in_cut es (cut_of c)) (length es)

-- the end of a run that violates
abbrev pub hit : List Event → Meaning → Pair → Bool
hit es m x = full es x.cut && m.bad x.code

-- two pairs are equal
abbrev pub same : Pair → Pair → Bool
same x y = x.code == y.code && same_counts x.cut y.cut

-- the counts of the first n threads, added up
abbrev pub total : (ℕ → ℕ) → ℕ → ℕ
total f zero = 0
total f (suc n) = f n + total f n

-- how many events are in the cut
abbrev pub size_of : List ℕ → ℕ
size_of c = total (cut_of c) 8
