-- Vector clocks: for each thread, how many of its events are an event itself or before it.
use Rattle.std.specs.Prelude.{◌≡◌, ℕ, zero, suc, ◌<◌, max, cond, List, length, ◌==◌, ◌≢◌, slice_index_or}
use Rattle.events.specs.declared.event.Event.{Event}
use Rattle.order.specs.Trace.{blank, thread_at, Reads}
use Rattle.order.specs.Before.{Feeds, UpTo}

-- of the numbers below n, c are a P
pub data Number (P : ℕ → Type 0) : ℕ → ℕ → Type 0 where
  none : Number P 0 0
  one_more : {n c : ℕ} → Number P n c → P n → Number P (suc n) (suc c)
  no_more : {n c : ℕ} → Number P n c → (P n → ⊥) → Number P (suc n) c

-- c of thread t's events are f or before f
abbrev pub Counts : List Event → ℕ → ℕ → ℕ → Type 0
Counts es f t c = Number (λ e. (thread_at es e ≡ t) × UpTo es e f) (length es) c

-- a count for each thread
abbrev pub Clock : Type 0
Clock = ℕ → ℕ

abbrev pub zeros : Clock
zeros t = 0

-- one more at thread t
abbrev pub tick : ℕ → Clock → Clock
tick t c u = cond (t == u) (suc (c u)) (c u)

-- the larger count at each thread
abbrev pub join : Clock → Clock → Clock
join c d t = max (c t) (d t)

-- the table v with clock c at t
abbrev pub put : ℕ → Clock → (ℕ → Clock) → ℕ → Clock
put t c v u = cond (t == u) c (v u)

-- each thread's clock, and the clock of each variable's latest write
pub record Clocks : Type 0 where
  pub threads : ℕ → Clock
  pub writes : ℕ → Clock

-- an event's clock is its thread's with one more, and for a read the join of this with the clock of the latest write;
-- a release needs no join, since its acquire is of its own thread
abbrev pub clock_of : Clocks → Event → Clock
clock_of s e =
    cond (e.kind == 1)
    (join (tick e.thread (s.threads e.thread)) (s.writes e.subject))
    (tick e.thread (s.threads e.thread))

abbrev pub step : Clocks → Event → Clocks
step s e = record {
  threads = put e.thread (clock_of s e) s.threads;
  writes = cond (e.kind == 2) (put e.subject (clock_of s e) s.writes) s.writes;
}

-- the clocks after the first i events
abbrev pub scan : List Event → ℕ → Clocks
scan es zero = record { threads = λ t. zeros; writes = λ x. zeros }
scan es (suc i) = step (scan es i) (slice_index_or es i blank)

-- the clock of event i
abbrev pub clock_at : List Event → ℕ → Clock
clock_at es i = (scan es (suc i)).threads (thread_at es i)

-- Clocks of n threads that tables keep by the same rule, 8 counts to a clock: `v k t` is thread t's after k events, `c k` is event k's.
pub record Kept (es : List Event) (n : ℕ) (v : ℕ → ℕ → Clock) (c : ℕ → Clock) : Type 0 where
  pub starts : (t j : ℕ) → t < n → j < 8 → v 0 t j ≡ 0
  pub own : (k j : ℕ) → k < length es → j < 8 → v (suc k) (thread_at es k) j ≡ c k j
  pub others : (k t j : ℕ) → k < length es → t < n → j < 8 → (thread_at es k ≢ t) → v (suc k) t j ≡ v k t j
  -- a read that the write w feeds
  pub reads : (k x w j : ℕ) → k < length es → j < 8 → Reads es x k → Feeds es w k
      → c k j ≡ max (tick (thread_at es k) (v k (thread_at es k)) j) (c w j)
  -- any other event
  pub plain : (k j : ℕ) → k < length es → j < 8 → ((x w : ℕ) → Reads es x k → Feeds es w k → ⊥)
      → c k j ≡ tick (thread_at es k) (v k (thread_at es k)) j
