-- Consistent runs. A run is a list of event numbers; j, k and l stand for places in it.
use Rattle.std.specs.Prelude.{◌≡◌, ℕ, ◌<◌, List, map, length, slice_index, slice_index_or}
use Rattle.events.specs.declared.event.Event.{Event}
use Rattle.order.specs.Trace.{blank, thread_at, Acquires, Of}
use Rattle.order.specs.Trace.Object.{lock}
use Rattle.order.specs.Before.{Feeds, Before}
use Rattle.order.specs.Groups.{Group, Member, Touches}
use Rattle.order.specs.Groups.Group.{starting}

-- r has each noted event, and each once
pub record Ordering (es : List Event) (r : List ℕ) : Type 0 where
  pub noted : (k : ℕ) → k < length r → slice_index r k < length es
  pub each : (i : ℕ) → i < length es → (k : ℕ) × (k < length r) × (slice_index r k ≡ i)
  pub once : (j k : ℕ) → j < length r → k < length r → slice_index r j ≡ slice_index r k → j ≡ k

-- r is a consistent run
pub record Consistent (es : List Event) (r : List ℕ) : Type 0 where
  pub ordering : Ordering es r
  -- what is before an event stands ahead of it
  pub in_order : (j k : ℕ) → j < length r → k < length r → Before es (slice_index r j) (slice_index r k) → j < k
  -- between two events of a group stands no event of its variable or lock from outside
  pub together : (g : Group) (j k l : ℕ) → j < k → k < l → l < length r
      → Member es g (slice_index r j) → Member es g (slice_index r l)
      → Touches es g (slice_index r k) → (Member es g (slice_index r k) → ⊥) → ⊥
  -- a starting group stands ahead of all other events of its variable
  pub starts : (x j k : ℕ) → j < length r → k < length r
      → Member es (starting x) (slice_index r j)
      → Touches es (starting x) (slice_index r k) → (Member es (starting x) (slice_index r k) → ⊥) → j < k

-- a run is listed by the threads of its events
abbrev pub thread_list : List Event → List ℕ → List ℕ
thread_list es r = map (thread_at es) r

-- ts lists a consistent run
abbrev pub RunOf : List Event → List ℕ → Type 0
RunOf es ts = (r : List ℕ) × Consistent es r × (thread_list es r ≡ ts)

-- the events themselves, in the order of a run
abbrev pub reordered : List Event → List ℕ → List Event
reordered es r = map (λ i. slice_index_or es i blank) r

-- es, in the order noted, is a consistent run of fs: the same events, agreeing in thread, place, kind, subject and value
abbrev pub RunAmong : List Event → List Event → Type 0
RunAmong es fs = (r : List ℕ) × Consistent fs r × (reordered fs r ≡ es)

-- in the order of r the same events feed the same events
abbrev pub SameFeeds : List Event → List ℕ → Type 0
SameFeeds es r = (j k : ℕ) → j < length r → k < length r
    → (Feeds es (slice_index r j) (slice_index r k) → Feeds (reordered es r) j k)
    × (Feeds (reordered es r) j k → Feeds es (slice_index r j) (slice_index r k))

-- behind an acquire that has no release stands no event of its lock
abbrev pub KeepsLast : List Event → List ℕ → Type 0
KeepsLast es r = (l j k : ℕ) → j < k → k < length r
    → Acquires es l (slice_index r j) → ((f : ℕ) → Feeds es (slice_index r j) f → ⊥)
    → Of es (lock l) (slice_index r k) → ⊥
