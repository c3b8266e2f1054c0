-- The invariant once an accepted action is taken in.
use Rattle.std.proofs.Common.{◌≡◌, ℕ, suc, ◌<◌, Bool, true, false, cond, ◌&&◌, eqb, List, [], ◌∷◌, ◌++◌, length, get_or, set, ℤ, pos, None, sym, refl, ap, ◌∙◌, subst, ⊎_elim, arith}
use Rattle.std.proofs.lemmas.List.{length-set, get_or-set_same, get_or-set_other}
use Rattle.std.proofs.lemmas.Bool.{cases_eq, eq-eqb, ne_eqb}
use Rattle.events.specs.declared.event.Action.{Action}
use Rattle.events.specs.declared.event.Event.{Event}
use Rattle.events.specs.declared.lock.Lock.{Lock}
use Rattle.events.specs.declared.lock.Lock.TheVariants.{Free, Held}
use Rattle.events.specs.Accepted.{accepted}
use Rattle.events.specs.Noting.{Opening, is_of, value_now, lock_now, count_of, noting}
use Rattle.events.proofs.Pushes.{latest_push, lock_after_push, count_of_push}
use Rattle.events.proofs.Accepted.{accepted_push}
use Rattle.rows.specs.declared.list.Rows.{Rows}
use Rattle.rows.specs.Listed.{lent, listed}
use Rattle.trace.specs.declared.Trace.{Trace}
use Rattle.trace.specs.Meaning.{opening_of, noted_of, rows_of, refused_by}
use Rattle.trace.specs.Settings.{opening_with}
use Rattle.trace.specs.Fields.{opening_in}
use Rattle.trace.specs.Steps.{lock_by, stepped}
use Rattle.trace.proofs.Bounds.{few_starts}
use Rattle.trace.proofs.Invariant.{Kept}

-- one entry is changed, and the others stay
set_entry : {A : Type 0} (xs : List A) (i x : ℕ) (d : A) (f : A → A) → x < length xs
    → get_or (set xs i (f (get_or xs i d))) x d ≡ cond (eqb i x) (f (get_or xs x d)) (get_or xs x d)
set_entry {A} xs i x d f h =
    ⊎_elim
    (λ (e : x ≡ i).
    ap (λ (j : ℕ). get_or (set xs i (f (get_or xs i d))) j d) e
    ∙ get_or-set_same xs i (f (get_or xs i d)) d (omega arith)
    ∙ ap (λ (j : ℕ). f (get_or xs j d)) (sym e)
    ∙ ap (λ (b : Bool). cond b (f (get_or xs x d)) (get_or xs x d)) (sym (eq-eqb i x (sym e))))
    (λ (ne : x ≡ i → ⊥).
    get_or-set_other xs i x (f (get_or xs i d)) d ne
    ∙ ap (λ (b : Bool). cond b (f (get_or xs x d)) (get_or xs x d)) (sym (ne_eqb i x (λ e. ne (sym e)))))
    (cases_eq x i)

one_way : {A : Type 0} (b e : Bool) (y z : A) → cond e (cond b y z) z ≡ cond (b && e) y z
one_way true true y z = refl
one_way true false y z = refl
one_way false true y z = refl
one_way false false y z = refl

two_ways : {A : Type 0} (b c e : Bool) (x y z : A) → cond e (cond b x (cond c y z)) z ≡ cond (b && e) x (cond (c && e) y z)
two_ways true c true x y z = refl
two_ways true c false x y z = one_way c false y z
two_ways false c true x y z = one_way c true y z
two_ways false c false x y z = one_way c false y z

pub kept_more : (t : Trace) (rows : Rows Event) (a : Action) → refused_by t a ≡ None → listed rows ≡ noted_of t ++ noting (noted_of t) a ∷ []
    → length (lent rows) ≡ length (rows_of t) → Kept (stepped t.state a) rows
kept_more t rows a ok more room =
    let s = t.state in
    let es = noted_of t in
    let e = noting es a in
    let o = opening_of t in
    let same : opening_in (stepped s a) rows ≡ o = ap (opening_with s.setting) room in
    let few = few_starts s.setting (length (lent rows)) in
    let nv = t.sizes.0 in
    let nl = t.sizes.1 in
    let nc = t.sizes.2 in
    record {
      values_size = length-set s.values a.subject _ ∙ nv;
      locks_size = length-set s.locks a.subject _ ∙ nl;
      counts_size = length-set s.counts a.thread _ ∙ nc;
      valued = λ x h.
          set_entry s.values a.subject x (pos 0) (λ (v : ℤ). cond (eqb a.kind 2) a.value v) (omega arith)
          ∙ one_way (eqb a.kind 2) (eqb a.subject x) a.value (get_or s.values x (pos 0))
          ∙ ap (λ (v : ℤ). cond (is_of 2 x e) a.value v) (t.values x (subst (λ (p : Opening). x < length p.starts) same h))
          ∙ sym (latest_push (get_or o.starts x (pos 0)) x es e)
          ∙ ap (λ (ds : List Event). value_now o ds x) (sym more)
          ∙ ap (λ (p : Opening). value_now p (listed rows) x) (sym same);
      locked = λ l h.
          set_entry s.locks a.subject l Free (lock_by a.kind a.thread) (omega arith)
          ∙ two_ways (eqb a.kind 3) (eqb a.kind 4) (eqb a.subject l) (Held a.thread) Free (get_or s.locks l Free)
          ∙ ap (λ (m : Lock). cond (is_of 3 l e) (Held a.thread) (cond (is_of 4 l e) Free m)) (t.locks l h)
          ∙ sym (lock_after_push Free l es e)
          ∙ ap (λ (ds : List Event). lock_now ds l) (sym more);
      counted = λ i h.
          set_entry s.counts a.thread i 0 suc (omega arith)
          ∙ ap (λ (n : ℕ). cond (eqb a.thread i) (suc n) n) (t.counts i h)
          ∙ sym (count_of_push i es e)
          ∙ ap (count_of i) (sym more);
      accepted_all =
          ap (λ (p : Opening). accepted p (listed rows)) same
          ∙ ap (accepted o) more
          ∙ accepted_push o [] es a t.noted ok;
    }
