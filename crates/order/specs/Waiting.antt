-- What keeps an event from following a cut that a path reaches.
use Rattle.std.specs.Prelude.{◌≡◌, ℕ, suc, ◌<◌, ◌≤◌, ◌⊎◌, List, length, ◌≢◌}
use Rattle.events.specs.declared.event.Event.{Event}
use Rattle.order.specs.Trace.{thread_at, place_at, kind_at, Is, Reads, Writes, Acquires, Releases}
use Rattle.order.specs.Before.{Feeds, Before}
use Rattle.order.specs.Groups.{Group, Member, Touches}
use Rattle.order.specs.Groups.Group.{starting}
use Rattle.order.specs.Cuts.{Cut, advance, In, Open, MayFollow}
use Rattle.order.specs.Clocks.{Number}

-- event i is the next of thread t
pub record HasNext (es : List Event) (c : Cut) (t i : ℕ) : Type 0 where
  pub noted : i < length es
  pub own : thread_at es i ≡ t
  pub place : place_at es i ≡ suc (c t)

-- an event before i is missing
abbrev pub Missing : List Event → Cut → ℕ → Type 0
Missing es c i = (j : ℕ) × (j < length es) × Before es j i × (In es c j → ⊥)

-- another group of i's variable or lock is open
abbrev pub Blocked : List Event → Cut → ℕ → Type 0
Blocked es c i = (g : Group) × Touches es g i × (Member es g i → ⊥) × Open es c g

-- the event that feeds i is not in the cut
abbrev pub Unfed : List Event → Cut → ℕ → Type 0
Unfed es c i = (e : ℕ) × Feeds es e i × (In es c e → ⊥)

-- by the source's thread t and place p: what feeds is in the cut, or nothing does
abbrev pub Supplied : Cut → ℕ → ℕ → Type 0
Supplied c t p = (t ≡ 255) ⊎ (p ≤ c t)

-- the group that i belongs to, and does not lead, has begun
abbrev pub Begun : List Event → Cut → ℕ → Type 0
Begun es c i = ((e : ℕ) × Feeds es e i × In es c e) ⊎ ((x : ℕ) × Member es (starting x) i)

-- an event of this kind and subject is not in the cut, although its group has begun
pub record Waiting (es : List Event) (c : Cut) (k s j : ℕ) : Type 0 where
  pub is : Is es k s j
  pub out : In es c j → ⊥
  pub begun : Begun es c j

-- What decides whether a thread's next event, i, may follow the cut c.
pub record Follows (es : List Event) (c : Cut) (t i : ℕ) : Type 0 where
  -- it may exactly when no event before it is missing and nothing blocks it
  pub may : ((Missing es c i → ⊥) → (Blocked es c i → ⊥) → MayFollow es c i) × (MayFollow es c i → (Missing es c i → ⊥) × (Blocked es c i → ⊥))
  -- an event before it is missing exactly when what feeds it is
  pub missing : (Missing es c i → Unfed es c i) × (Unfed es c i → Missing es c i)
  -- of events with none missing, only writes and acquires are blocked
  pub plain : (Missing es c i → ⊥) → (kind_at es i ≢ 2) → (kind_at es i ≢ 3) → Blocked es c i → ⊥
  -- a write exactly when a read of its variable waits
  pub write : (x : ℕ) → Writes es x i
      → (Blocked es c i → (j : ℕ) × Waiting es c 1 x j) × ((j : ℕ) → Waiting es c 1 x j → Blocked es c i)
  -- an acquire exactly when a release of its lock waits
  pub acquire : (l : ℕ) → Acquires es l i
      → (Blocked es c i → (j : ℕ) × Waiting es c 4 l j) × ((j : ℕ) → Waiting es c 4 l j → Blocked es c i)

-- The same by an event's source, as a map has it, where threads are below 255.
pub record BySource (es : List Event) (c : Cut) (i t p : ℕ) : Type 0 where
  pub unfed : (Supplied c t p → Unfed es c i → ⊥) × ((Unfed es c i → ⊥) → Supplied c t p)
  -- the group of a read or a release has begun
  pub begun : (x : ℕ) → Reads es x i ⊎ Releases es x i → (Supplied c t p → Begun es c i) × (Begun es c i → Supplied c t p)

-- how many events of a kind and subject wait
abbrev pub Waits : List Event → Cut → ℕ → ℕ → ℕ → Type 0
Waits es c k s v = Number (Waiting es c k s) (length es) v

-- How many reads of a variable, or releases of a lock, wait when event i has followed: v waited at the cut c.
pub record Moves (es : List Event) (c : Cut) (i k s v : ℕ) : Type 0 where
  -- event i is one of those that waited
  pub one_less : Is es k s i → (w : ℕ) × (v ≡ suc w) × Waits es (advance (thread_at es i) c) k s w
  -- event i is the write or the acquire that they wait for, and feeds z events
  pub anew : ((j : ℕ) → Feeds es i j → Is es k s j) → v ≡ 0 → (z : ℕ) → Number (Feeds es i) (length es) z → Waits es (advance (thread_at es i) c) k s z
  -- event i is neither
  pub same : (Is es k s i → ⊥) → ((j : ℕ) → Feeds es i j → Is es k s j → ⊥) → Waits es (advance (thread_at es i) c) k s v
