-- Why a thread list is refused, step by step. Only the worked traces use this.
use Rattle.std.specs.Prelude.{ℕ, zero, suc, Bool, cond, not, ◌&&◌, ◌||◌, List, [], ◌∷◌, length, Some, None, Option, ◌==◌, nat_le}
use Rattle.events.specs.declared.event.Event.{Event}
use Rattle.order.specs.Trace.{thread_at, place_at, subject_at}
use Rattle.order.specs.Groups.Group.{led, starting}
use Rattle.order.specs.Cuts.{Cut, empty_cut, advance}
use Rattle.order.specs.Tests.{some, before, in_cut, blocks}
use Rattle.replay.specs.declared.refusal.ReplayRefusal.{ReplayRefusal}
use Rattle.replay.specs.declared.refusal.ReplayRefusal.TheVariants.{Length, Thread, Done, Missing, Blocked}
use Rattle.replay.specs.Refusals.{replay_number, replay_position}

-- the number of thread t's next event after the cut, among the first k
abbrev next_of : List Event → Cut → ℕ → ℕ → Option ℕ
next_of es c t zero = None
next_of es c t (suc k) = cond (thread_at es k == t && place_at es k == suc (c t)) (Some k) (next_of es c t k)

-- an event before i is not in the cut
abbrev missing : List Event → Cut → ℕ → Bool
missing es c i = some (λ j. before es j i && not (in_cut es c j)) (length es)

-- another group of i's variable or lock is open
abbrev blocked : List Event → Cut → ℕ → Bool
blocked es c i = some (λ e. blocks es c i (led e)) (length es) || blocks es c i (starting (subject_at es i))

-- why the next event, if there is one, may not follow the cut; p is its position
abbrev next_refusal : List Event → Cut → ℕ → Option ℕ → Option ReplayRefusal
next_refusal es c p None = Some (Done p)
next_refusal es c p (Some i) = cond (missing es c i) (Some (Missing p)) (cond (blocked es c i) (Some (Blocked p)) None)

-- why thread t, of n, may not go on from the cut
abbrev step_refusal : List Event → ℕ → Cut → ℕ → ℕ → Option ReplayRefusal
step_refusal es n c p t = cond (nat_le n t) (Some (Thread p)) (next_refusal es c p (next_of es c t (length es)))

-- the first reason, if there is one, or else the second
abbrev or_else : Option ReplayRefusal → Option ReplayRefusal → Option ReplayRefusal
or_else (Some why) rest = Some why
or_else None rest = rest

-- the first refusal of the threads, from the cut and the position p on
abbrev first_refusal : List Event → ℕ → Cut → ℕ → List ℕ → Option ReplayRefusal
first_refusal es n c p [] = None
first_refusal es n c p (t ∷ ts) = or_else (step_refusal es n c p t) (first_refusal es n (advance t c) (suc p) ts)

abbrev numbered : Option ReplayRefusal → ℕ × ℕ
numbered (Some why) = (replay_number why, replay_position why)
numbered None = (0, 0)

-- the number of the first refusal of a list of threads below n and its position, counted from 1; or 0 and 0 where the list is accepted
abbrev pub refusal_at : List Event → ℕ → List ℕ → ℕ × ℕ
refusal_at es n ts = numbered (cond (length ts == length es) (first_refusal es n empty_cut 1 ts) (Some Length))

-- the list is refused with this number at this position
abbrev pub refused_with : List Event → ℕ → List ℕ → ℕ → ℕ → Bool
refused_with es n ts number position = (refusal_at es n ts).0 == number && (refusal_at es n ts).1 == position
