-- What of a noted list its order rests on, and what else noting makes sure of.
use Rattle.std.specs.Prelude.{◌≡◌, ℕ, zero, suc, ◌<◌, ◌≤◌, false, cond, List, length, pos, ◌==◌, slice_index_or}
use Rattle.events.specs.declared.event.Event.{Event}
use Rattle.events.specs.Noting.{Opening, is_void, subjects, count_of}
use Rattle.order.specs.Trace.{thread_at, place_at, kind_at, subject_at, value_at, Reads, Acquires, Releases}
use Rattle.order.specs.Before.{NoneBetween, Feeds}
use Rattle.order.specs.Groups.{Member}
use Rattle.order.specs.Groups.Group.{starting}

-- how many of the first i events are of thread t
abbrev pub count : List Event → ℕ → ℕ → ℕ
count es t zero = 0
count es t (suc i) = cond (thread_at es i == t) (suc (count es t i)) (count es t i)

-- thread t holds lock l when i events are noted
pub record Holds (es : List Event) (t l i : ℕ) : Type 0 where
  pub since : ℕ
  pub earlier : since < i
  pub acquired : Acquires es l since
  pub own : thread_at es since ≡ t
  pub kept : NoneBetween since i (Releases es l)

-- each thread's events have the places from 1 on; no lock is acquired while it is held, and its holder releases it
pub record Sound (es : List Event) : Type 0 where
  pub places : (i : ℕ) → i < length es → place_at es i ≡ suc (count es (thread_at es i) i)
  pub acquires : (l i : ℕ) → Acquires es l i → (t : ℕ) → Holds es t l i → ⊥
  pub releases : (l i : ℕ) → Releases es l i → Holds es (thread_at es i) l i

-- the events are such as the opening allows
pub record Within (o : Opening) (es : List Event) : Type 0 where
  -- a void trace notes nothing
  pub valid : 0 < length es → is_void o ≡ false
  pub threads : (i : ℕ) → i < length es → thread_at es i < o.threads
  pub kinds : (i : ℕ) → i < length es → kind_at es i ≤ 4
  pub subjects_below : (i : ℕ) → i < length es → subject_at es i < subjects o (kind_at es i)
  pub lock_values : (i : ℕ) → i < length es → 2 < kind_at es i → value_at es i ≡ pos 0
  -- a read has the value of the write that feeds it, or its variable's starting value
  pub written : (x e i : ℕ) → Reads es x i → Feeds es e i → value_at es i ≡ value_at es e
  pub starting : (x i : ℕ) → Member es (starting x) i → value_at es i ≡ slice_index_or o.starts x (pos 0)
  -- a thread has at most 255 events
  pub places : (i : ℕ) → i < length es → place_at es i ≤ 255
  pub counts : (t : ℕ) → count_of t es ≤ 255
  pub room : length es ≤ o.room
