-- What a judgement says of the consistent runs.
use Rattle.std.specs.Prelude.{◌≡◌, ℕ, List, length, take, Ok, Err, Result, ◌≢◌}
use Rattle.events.specs.declared.event.Event.{Event}
use Rattle.order.specs.Runs.{thread_list}
use Rattle.monitor.specs.Meaning.{Meaning}
use Rattle.pairs.specs.Judged.{Breaks, Higher}
use Rattle.judge.specs.declared.refusal.JudgeRefusal.{JudgeRefusal}
use Rattle.judge.specs.declared.verdict.Judgement.{Judgement}
use Rattle.judge.specs.declared.verdict.Verdict.TheVariants as verdict

-- no consistent run violates
abbrev pub NoneBreaks : List Event → Meaning → Type 0
NoneBreaks es m = (run : List ℕ) → Breaks es m run → ⊥

-- the verdict is none exactly when no consistent run violates
abbrev pub SaysNone : List Event → Meaning → Result Judgement JudgeRefusal → Type 0
SaysNone es m (Ok j) = (j.verdict ≡ verdict.None → NoneBreaks es m) × (NoneBreaks es m → j.verdict ≡ verdict.None)
SaysNone es m (Err why) = Unit {0}

-- The front of the thread list lists a consistent run that violates, and every other such run has the higher thread number at the first place
-- where the two differ.
pub record LeastBreak (es : List Event) (m : Meaning) (list : List ℕ) : Type 0 where
  pub run : List ℕ
  pub breaks : Breaks es m run
  pub listed : take (length es) list ≡ thread_list es run
  pub others : (s : List ℕ) → Breaks es m s → (s ≢ run) → Higher (thread_list es run) (thread_list es s)

-- where the verdict is found, the thread list has the least run that violates
abbrev pub SaysFound : List Event → Meaning → Result Judgement JudgeRefusal → List ℕ → Type 0
SaysFound es m (Ok j) list = j.verdict ≡ verdict.Found → LeastBreak es m list
SaysFound es m (Err why) list = Unit {0}
