-- What a replay answers.
use Rattle.std.specs.Prelude.{◌≡◌, ℕ, ◌+◌, ◌<◌, ◌≤◌, List, map, length, take, Ok, Err, Decides, Result, slice_index}
use Rattle.events.specs.declared.event.Action.{Action}
use Rattle.events.specs.declared.event.Event.{Event}
use Rattle.events.specs.Events.{action_of}
use Rattle.order.specs.Runs.{Consistent, thread_list, RunOf, reordered}
use Rattle.order.specs.Cuts.{Cut, Reach}
use Rattle.order.specs.Sound.{Sound}
use Rattle.monitor.specs.declared.runs.Verdict.{Verdict}
use Rattle.monitor.specs.Meaning.{Meaning, ran, Violates}
use Rattle.follow.specs.declared.no_next.NoNext.TheVariants as because
use Rattle.follow.specs.Balance.{ThreadsBelow}
use Rattle.follow.specs.Answers.{Answers}
use Rattle.replay.specs.declared.refusal.ReplayRefusal.{ReplayRefusal}
use Rattle.replay.specs.declared.refusal.ReplayRefusal.TheVariants.{Void, Length, Thread, Done, Missing, Blocked}

-- what the events of a run do, in its order
abbrev pub actions_of : List Event → List ℕ → List Action
actions_of es r = map action_of (reordered es r)

-- the first k threads of the list, which is as long as the events are many, lead along a path to the cut c
pub record Taken (es : List Event) (ts : List ℕ) (k : ℕ) (c : Cut) : Type 0 where
  pub even : length ts ≡ length es
  pub ahead : k < length ts
  pub events : List ℕ
  pub reach : Reach es events c
  pub threads : thread_list es events ≡ take k ts

-- position p, counted from 1, is the first that is refused: of its thread and the cut there, P holds
abbrev pub RefusedAt : List Event → List ℕ → ℕ → (ℕ → Cut → Type 0) → Type 0
RefusedAt es ts p P = (k : ℕ) × (c : Cut) × (p ≡ k + 1) × Taken es ts k c × P (slice_index ts k) c

-- the list ts of threads below n is refused for this reason; that the trace is void is none of a list's
abbrev pub Refused : List Event → ℕ → List ℕ → ReplayRefusal → Type 0
Refused es n ts Void = ⊥
Refused es n ts Length = length ts ≡ length es → ⊥
Refused es n ts (Thread p) = RefusedAt es ts p (λ t c. n ≤ t)
Refused es n ts (Done p) = RefusedAt es ts p (λ t c. (t < n) × Answers es c t (Err because.Done))
Refused es n ts (Missing p) = RefusedAt es ts p (λ t c. (t < n) × Answers es c t (Err because.Missing))
Refused es n ts (Blocked p) = RefusedAt es ts p (λ t c. (t < n) × Answers es c t (Err because.Blocked))

-- the list ts is that of a consistent run, and the verdict is the monitor's on that run
pub record Replayed (m : Meaning) (es : List Event) (ts : List ℕ) (v : Verdict) : Type 0 where
  pub run : List ℕ
  pub consistent : Consistent es run
  pub threads : thread_list es run ≡ ts
  pub ends : v.code ≡ ran m (actions_of es run)
  pub told : v.violated ≡ m.bad v.code
  pub violates : Decides v.violated (Violates m (actions_of es run))

abbrev pub Outcome : Meaning → List Event → ℕ → List ℕ → Result Verdict ReplayRefusal → Type 0
Outcome m es n ts (Ok v) = Replayed m es ts v
Outcome m es n ts (Err why) = Refused es n ts why × (RunOf es ts → ⊥)

-- at most one outcome is right
abbrev pub OneOutcome : Type 0
OneOutcome = (m : Meaning) (es : List Event) → Sound es → (n : ℕ) → ThreadsBelow es n → (ts : List ℕ)
    → (a b : Result Verdict ReplayRefusal) → Outcome m es n ts a → Outcome m es n ts b → a ≡ b
