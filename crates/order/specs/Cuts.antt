-- Cuts, and which event may follow one.
use Rattle.std.specs.Prelude.{◌≡◌, ℕ, suc, ◌<◌, ◌≤◌, cond, List, [], ◌∷◌, ◌++◌, length, ◌==◌}
use Rattle.events.specs.declared.event.Event.{Event}
use Rattle.order.specs.Trace.{thread_at, place_at}
use Rattle.order.specs.Before.{Before}
use Rattle.order.specs.Groups.{Group, Member, Touches}
use Rattle.order.specs.Groups.Group.{led, starting}

-- for each thread, how many of its first events are in the cut
abbrev pub Cut : Type 0
Cut = ℕ → ℕ

-- the cut without events
abbrev pub empty_cut : Cut
empty_cut t = 0

-- the cut with one more event of thread t
abbrev pub advance : ℕ → Cut → Cut
advance t c u = cond (t == u) (suc (c u)) (c u)

-- event i is in the cut
abbrev pub In : List Event → Cut → ℕ → Type 0
In es c i = place_at es i ≤ c (thread_at es i)

-- all events are in the cut
abbrev pub Full : List Event → Cut → Type 0
Full es c = (i : ℕ) → i < length es → In es c i

-- an event of the group is in the cut; an event of the group is not
abbrev pub Has : List Event → Cut → Group → Type 0
Has es c g = (i : ℕ) × (i < length es) × Member es g i × In es c i

abbrev pub Lacks : List Event → Cut → Group → Type 0
Lacks es c g = (i : ℕ) × (i < length es) × Member es g i × (In es c i → ⊥)

-- the cut has some of the group's events and not all; a starting group is open until all are in
abbrev pub Open : List Event → Cut → Group → Type 0
Open es c (led e) = Has es c (led e) × Lacks es c (led e)
Open es c (starting x) = Lacks es c (starting x)

-- event i may follow the cut
pub record MayFollow (es : List Event) (c : Cut) (i : ℕ) : Type 0 where
  pub noted : i < length es
  -- it is its thread's next
  pub next : place_at es i ≡ suc (c (thread_at es i))
  -- all events before it are in
  pub ready : (j : ℕ) → j < length es → Before es j i → In es c j
  -- no other group of its variable or lock is open
  pub alone : (g : Group) → Touches es g i → (Member es g i → ⊥) → Open es c g → ⊥

-- the threads ts, one by one, lead from the cut c to the full cut
abbrev pub AcceptedFrom : List Event → Cut → List ℕ → Type 0
AcceptedFrom es c [] = Full es c
AcceptedFrom es c (t ∷ ts) = (i : ℕ) × MayFollow es c i × (thread_at es i ≡ t) × AcceptedFrom es (advance t c) ts

-- the thread list is accepted step by step
abbrev pub Accepted : List Event → List ℕ → Type 0
Accepted es ts = AcceptedFrom es empty_cut ts

-- the events r, each of which may follow the cut of those ahead of it, lead from the empty cut to this one
pub data Reach (es : List Event) : List ℕ → Cut → Type 0 where
  start : Reach es [] empty_cut
  onward : {r : List ℕ} {c : Cut} (i : ℕ) → Reach es r c → MayFollow es c i → Reach es (r ++ i ∷ []) (advance (thread_at es i) c)
