-- The balance of a variable or a lock: how many of its reads or releases are led into a cut, and how many are taken.
use Rattle.std.specs.Prelude.{◌≡◌, ℕ, zero, suc, ◌+◌, ◌<◌, ◌≤◌, ◌⊎◌, List, length}
use Rattle.events.specs.declared.event.Event.{Event}
use Rattle.order.specs.Trace.{thread_at, place_at, Is}
use Rattle.order.specs.Before.{Feeds}
use Rattle.order.specs.Cuts.{Cut, Reach}
use Rattle.order.specs.Sound.{Sound}
use Rattle.order.specs.Clocks.{Number}
use Rattle.order.specs.Waiting.{Waits}

-- Of the events of kind k and subject s, the reads of a variable or the releases of a lock:
-- those that the first c events of thread t feed
abbrev pub LedBy : List Event → ℕ → ℕ → ℕ → ℕ → ℕ → Type 0
LedBy es k s t c j = Is es k s j × ((e : ℕ) × Feeds es e j × (thread_at es e ≡ t) × (place_at es e ≤ c))

-- those that are themselves among the first c events of thread t
abbrev pub TakenBy : List Event → ℕ → ℕ → ℕ → ℕ → ℕ → Type 0
TakenBy es k s t c j = Is es k s j × (thread_at es j ≡ t) × (place_at es j ≤ c)

-- those that nothing feeds: the starting group
abbrev pub Starts : List Event → ℕ → ℕ → ℕ → Type 0
Starts es k s j = Is es k s j × ((e : ℕ) → Feeds es e j → ⊥)

-- how many there are
abbrev pub Led : List Event → ℕ → ℕ → ℕ → ℕ → ℕ → Type 0
Led es k s t c v = Number (LedBy es k s t c) (length es) v

abbrev pub Taken : List Event → ℕ → ℕ → ℕ → ℕ → ℕ → Type 0
Taken es k s t c v = Number (TakenBy es k s t c) (length es) v

abbrev pub Starting : List Event → ℕ → ℕ → ℕ → Type 0
Starting es k s v = Number (Starts es k s) (length es) v

-- the sum of f over the first n threads
abbrev pub over_threads : (ℕ → ℕ) → ℕ → ℕ
over_threads f zero = 0
over_threads f (suc n) = over_threads f n + f n

-- the kind is that of reads or that of releases
abbrev pub Follower : ℕ → Type 0
Follower k = (k ≡ 1) ⊎ (k ≡ 4)

-- some path leads to the cut
abbrev pub Reached : List Event → Cut → Type 0
Reached es c = (r : List ℕ) × Reach es r c

abbrev pub ThreadsBelow : List Event → ℕ → Type 0
ThreadsBelow es n = (i : ℕ) → i < length es → thread_at es i < n

-- In a cut that a path reaches, the starting group and what is led in are what is taken and what waits.
abbrev pub BalanceLaw : Type 0
BalanceLaw = (es : List Event) → Sound es → ThreadsBelow es 8 → (c : Cut) → Reached es c
    → (k s : ℕ) → Follower k
    → (started : ℕ) → Starting es k s started
    → (led taken : ℕ → ℕ) → ((t : ℕ) → t < 8 → Led es k s t (c t) (led t)) → ((t : ℕ) → t < 8 → Taken es k s t (c t) (taken t))
    → (waiting : ℕ) → Waits es c k s waiting
    → started + over_threads led 8 ≡ over_threads taken 8 + waiting
