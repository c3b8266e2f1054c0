-- What one more event makes of values, locks and counts.
use Rattle.std.proofs.Common.{◌≡◌, ℕ, suc, Bool, true, false, cond, eqb, List, [], ◌∷◌, ◌++◌, ℤ, refl, ap, ◌∙◌}
use Rattle.events.specs.declared.event.Event.{Event}
use Rattle.events.specs.declared.lock.Lock.{Lock}
use Rattle.events.specs.declared.lock.Lock.TheVariants.{Free, Held}
use Rattle.events.specs.Noting.{is_of, latest, lock_after, count_of}

pub latest_push : (v : ℤ) (x : ℕ) (es : List Event) (e : Event) → latest v x (es ++ e ∷ []) ≡ cond (is_of 2 x e) e.value (latest v x es)
latest_push v x [] e = refl
latest_push v x (d ∷ es) e = latest_push (cond (is_of 2 x d) d.value v) x es e

pub lock_after_push : (k : Lock) (l : ℕ) (es : List Event) (e : Event)
    → lock_after k l (es ++ e ∷ []) ≡ cond (is_of 3 l e) (Held e.thread) (cond (is_of 4 l e) Free (lock_after k l es))
lock_after_push k l [] e = refl
lock_after_push k l (d ∷ es) e = lock_after_push (cond (is_of 3 l d) (Held d.thread) (cond (is_of 4 l d) Free k)) l es e

both_counted : (a b : Bool) (n : ℕ) → cond a (suc (cond b (suc n) n)) (cond b (suc n) n) ≡ cond b (suc (cond a (suc n) n)) (cond a (suc n) n)
both_counted true true n = refl
both_counted true false n = refl
both_counted false true n = refl
both_counted false false n = refl

pub count_of_push : (t : ℕ) (es : List Event) (e : Event) → count_of t (es ++ e ∷ []) ≡ cond (eqb e.thread t) (suc (count_of t es)) (count_of t es)
count_of_push t [] e = refl
count_of_push t (d ∷ es) e =
    ap (λ (n : ℕ). cond (eqb d.thread t) (suc n) n) (count_of_push t es e)
    ∙ both_counted (eqb d.thread t) (eqb e.thread t) (count_of t es)
