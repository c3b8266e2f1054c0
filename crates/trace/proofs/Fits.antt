-- The first reason that fits, over parts of a list of reasons.
use Rattle.std.proofs.Common.{◌≡◌, ℕ, Bool, true, false, cond, leb, List, [], ◌∷◌, ◌++◌, get_or, Some, None, Ok, Err, Option, Result, sym, refl, ap, ◌∙◌}
use Rattle.std.proofs.lemmas.Option.{none-some}
use Rattle.events.specs.declared.event.Action.{Action}
use Rattle.events.specs.declared.lock.Lock.TheVariants.{Free}
use Rattle.events.specs.declared.refusal.Refusal.{Refusal}
use Rattle.events.specs.declared.refusal.Refusal.TheVariants.{ThreadFull, RowsFull}
use Rattle.events.specs.First.{first_fit, told}
use Rattle.trace.specs.declared.state.State.{State}
use Rattle.trace.specs.Steps.{form_tests, value_tests, lock_tests, room_tests, step_tests, or_else, placed}

-- where a part gives no reason, the rest decides
pub fit_later : {R : Type 0} (xs ys : List (Bool × R)) → first_fit xs ≡ None → first_fit (xs ++ ys) ≡ first_fit ys
fit_later [] ys h = refl
fit_later {R} (x ∷ xs) ys h = at x.0 (fit_later xs ys) h
  where
    at : (b : Bool) → (first_fit xs ≡ None → first_fit (xs ++ ys) ≡ first_fit ys) → cond b (Some x.1) (first_fit xs) ≡ None → cond b (Some x.1) (first_fit (xs ++ ys)) ≡ first_fit ys
    at true rest k = absurd (none-some x.1 (sym k))
    at false rest k = rest k

-- where nothing fits, nothing of the rest does, and the first test fails
pub fit_rest : {R : Type 0} (xs ys : List (Bool × R)) → first_fit (xs ++ ys) ≡ None → first_fit ys ≡ None
fit_rest [] ys h = h
fit_rest {R} (x ∷ xs) ys h = at x.0 (fit_rest xs ys) h
  where
    at : (b : Bool) → (first_fit (xs ++ ys) ≡ None → first_fit ys ≡ None) → cond b (Some x.1) (first_fit (xs ++ ys)) ≡ None → first_fit ys ≡ None
    at true rest k = absurd (none-some x.1 (sym k))
    at false rest k = rest k

pub fit_none : {R : Type 0} (b : Bool) (r : R) (o : Option R) → cond b (Some r) o ≡ None → (b ≡ false) × (o ≡ None)
fit_none true r o h = absurd (none-some r (sym h))
fit_none false r o h = (refl, h)

pub told_err : (o : Option Refusal) (why : Refusal) → Err why ≡ told o → o ≡ Some why
told_err (Some w) why h = cc
told_err None why h = cc

pub told_ok : (o : Option Refusal) (x : Unit {0}) → Ok x ≡ told o → o ≡ None
told_ok (Some w) x h = cc
told_ok None x h = refl

-- a reason, or else a later check's
pub else_told : (xs ys : List (Bool × Refusal)) → or_else (first_fit xs) (told (first_fit ys)) ≡ told (first_fit (xs ++ ys))
else_told [] ys = refl
else_told (x ∷ xs) ys = at x.0 (else_told xs ys)
  where
    at : (b : Bool) → or_else (first_fit xs) (told (first_fit ys)) ≡ told (first_fit (xs ++ ys)) → or_else (cond b (Some x.1) (first_fit xs)) (told (first_fit ys)) ≡ told (cond b (Some x.1) (first_fit (xs ++ ys)))
    at true rest = refl
    at false rest = rest

-- the reasons after the action's form, and after its value
abbrev later : State → Bool → Action → List (Bool × Refusal)
later s spare a = lock_tests (get_or s.locks a.subject Free) a.kind a.thread ++ room_tests s spare a.thread

abbrev weighed : State → Bool → Action → List (Bool × Refusal)
weighed s spare a = value_tests s a ++ later s spare a

-- where form and value are right, a step is refused by its lock or for want of room: d is the action as it is admitted, and r says whether there is room
pub step_lock : (s : State) (spare : Bool) (a d : Action) (x : Unit {0}) (r : Result (Unit {0}) Refusal) (why : Refusal) → first_fit (form_tests s a) ≡ None → d ≡ a
    → Ok x ≡ told (first_fit (value_tests s d))
    → r ≡ told (first_fit (room_tests s spare d.thread))
    → Err why ≡ or_else (first_fit (lock_tests (get_or s.locks d.subject Free) d.kind d.thread)) r
    → first_fit (step_tests s spare a) ≡ Some why
step_lock s spare a d x r why form same value room lock =
    let locks = lock_tests (get_or s.locks d.subject Free) d.kind d.thread in
    let rooms = room_tests s spare d.thread in
    let refused : first_fit (locks ++ rooms) ≡ Some why =
    told_err (first_fit (locks ++ rooms)) why (lock ∙ ap (or_else (first_fit locks)) room ∙ else_told locks rooms) in
    ap (λ (b : Action). first_fit (step_tests s spare b)) (sym same)
    ∙ fit_later (form_tests s d) (weighed s spare d) (ap (λ (b : Action). first_fit (form_tests s b)) same ∙ form)
    ∙ fit_later (value_tests s d) (later s spare d) (told_ok (first_fit (value_tests s d)) x value)
    ∙ refused

-- a step that is not refused has a spare row
pub step_spare : (s : State) (spare : Bool) (a : Action) → first_fit (step_tests s spare a) ≡ None → spare ≡ true
step_spare s true a h = refl
step_spare s false a h =
    let room = fit_rest (lock_tests (get_or s.locks a.subject Free) a.kind a.thread) (room_tests s false a.thread)
    (fit_rest (value_tests s a) (later s false a) (fit_rest (form_tests s a) (weighed s false a) h)) in
    let rows = fit_none (leb 255 (get_or s.counts a.thread 0)) ThreadFull (Some RowsFull) room in
    absurd (none-some RowsFull (sym rows.1))

pub placed_err : (o : Option Refusal) (n : ℕ) (why : Refusal) → Err why ≡ placed o n → o ≡ Some why
placed_err (Some w) n why h = cc
placed_err None n why h = cc

pub placed_ok : (o : Option Refusal) (n m : ℕ) → Ok m ≡ placed o n → (o ≡ None) × (m ≡ n)
placed_ok (Some w) n m h = (cc, cc)
placed_ok None n m h = (refl, cc)
