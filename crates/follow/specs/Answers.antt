-- What the tables answer of a cut and a thread.
use Rattle.std.specs.Prelude.{◌≡◌, ℕ, List, Ok, Err, Result, slice_index_or}
use Rattle.events.specs.declared.event.Event.{Event}
use Rattle.order.specs.Trace.{blank, thread_at}
use Rattle.order.specs.Cuts.{Cut, MayFollow}
use Rattle.order.specs.Sound.{Sound}
use Rattle.order.specs.Waiting.{HasNext, Missing, Blocked}
use Rattle.follow.specs.declared.no_next.NoNext.{NoNext}
use Rattle.follow.specs.declared.no_next.NoNext.TheVariants as because

abbrev pub Answers : List Event → Cut → ℕ → Result Event NoNext → Type 0
-- the thread's next event may follow
Answers es c t (Ok e) = (i : ℕ) × MayFollow es c i × (thread_at es i ≡ t) × (e ≡ slice_index_or es i blank)
-- the thread has no event left
Answers es c t (Err because.Done) = (i : ℕ) → HasNext es c t i → ⊥
-- an event before its next one is missing
Answers es c t (Err because.Missing) = (i : ℕ) × HasNext es c t i × Missing es c i
-- none is missing, and another group of its variable or lock is open
Answers es c t (Err because.Blocked) = (i : ℕ) × HasNext es c t i × (Missing es c i → ⊥) × Blocked es c i

-- at most one answer is right
abbrev pub OneAnswer : Type 0
OneAnswer = (es : List Event) → Sound es → (c : Cut) (t : ℕ) (a b : Result Event NoNext) → Answers es c t a → Answers es c t b → a ≡ b
