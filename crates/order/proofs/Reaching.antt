-- The events of a consistent run lead to the full cut, and what leads there is a consistent run.
use Rattle.std.proofs.Common.{◌≡◌, ℕ, zero, suc, ◌+◌, ◌<◌, ◌≤◌, List, [], ◌∷◌, ◌++◌, length, get_or, take, sym, refl, ap, ◌∙◌, subst, inl, inr, add-one, arith}
use Rattle.std.proofs.lemmas.List.{take_all, take_more, length_push, get_or_append_left, get_or_push}
use Rattle.std.proofs.lemmas.Bool.{cases_lt}
use Rattle.events.specs.declared.event.Event.{Event}
use Rattle.order.specs.Trace.{thread_at}
use Rattle.order.specs.Runs.{Ordering, Consistent}
use Rattle.order.specs.Cuts.{Cut, empty_cut, advance, Full, MayFollow, Reach}
use Rattle.order.specs.Cuts.Reach.{start, onward}
use Rattle.order.specs.Sound.{Sound}
use Rattle.order.proofs.Cuts.{after, after_suc, Steps}
use Rattle.order.proofs.Fits.{fits}
use Rattle.order.proofs.Paths.{consistent, path}
use Rattle.order.proofs.Rows.{listed}

-- a run has as many events as were noted
pub run_length : (es : List Event) (r : List ℕ) → Ordering es r → length r ≡ length es
run_length es r o =
    let a = fits (length r) (length es) (λ k. get_or r k 0) (record { below = o.noted; apart = o.once }) in
    let s = listed (length es) (λ i k. (k < length r) × (get_or r k 0 ≡ i)) (λ i l. let e = o.each i l in (e.0, (e.1, e.2))) in
    let b = fits (length es) (length r) (λ i. get_or s.0 i 0) (record {
      below = λ i l. (s.2 i l).0;
      apart = λ i j u v e. sym (s.2 i u).1 ∙ ap (λ k. get_or r k 0) e ∙ (s.2 j v).1;
    }) in
    omega arith

module _ (es : List Event) where
  reach_upto : (r : List ℕ) → Steps es empty_cut r → (k : ℕ) → k ≤ length r → Reach es (take k r) (after es empty_cut r k)
  reach_upto r s zero l = start
  reach_upto r s (suc k) l =
      let q : take k r ++ get_or r k 0 ∷ [] ≡ take (suc k) r = sym (take_more r k 0 l) ∙ ap (λ n. take n r) (add-one k) in
      subst (λ p. Reach es p (after es empty_cut r (suc k))) q
      (subst (Reach es (take k r ++ get_or r k 0 ∷ [])) (sym (after_suc es empty_cut r k l))
      (onward (get_or r k 0) (reach_upto r s k (omega arith)) (s.follows k l)))

  after-append : (c : Cut) (r s : List ℕ) (k : ℕ) → k ≤ length r → after es c (r ++ s) k ≡ after es c r k
  after-append c r s zero l = refl
  after-append c [] s (suc k) l = absurd (omega arith)
  after-append c (i ∷ r) s (suc k) l = after-append (advance (thread_at es i) c) r s k (omega arith)

  record Walk (r : List ℕ) (c : Cut) : Type 0 where
    follows : (k : ℕ) → k < length r → MayFollow es (after es empty_cut r k) (get_or r k 0)
    ends : after es empty_cut r (length r) ≡ c

  walk : {r : List ℕ} {c : Cut} → Reach es r c → Walk r c
  walk start = record { follows = λ k l. absurd (omega arith); ends = refl }
  walk (onward {r = r} {c = c} i h m) =
      let w = walk h in
      let n : length (r ++ i ∷ []) ≡ length r + 1 = length_push r i in
      let at : get_or (r ++ i ∷ []) (length r) 0 ≡ i = get_or_push r i 0 (length r) refl in
      let cut : after es empty_cut (r ++ i ∷ []) (length r) ≡ c = after-append empty_cut r (i ∷ []) (length r) (omega arith) ∙ w.ends in
      record {
        follows = λ k l.
            elim (cases_lt k (length r)) [
              | inl b ↦
                  subst (λ d. MayFollow es d (get_or (r ++ i ∷ []) k 0)) (sym (after-append empty_cut r (i ∷ []) k (omega arith)))
                  (subst (MayFollow es (after es empty_cut r k)) (sym (get_or_append_left r (i ∷ []) 0 k b)) (w.follows k b))
              | inr b ↦
                  let z : length r ≡ k = omega arith in
                  subst (λ j. MayFollow es (after es empty_cut (r ++ i ∷ []) j) (get_or (r ++ i ∷ []) j 0)) z
                  (subst (λ d. MayFollow es d (get_or (r ++ i ∷ []) (length r) 0)) (sym cut) (subst (MayFollow es c) (sym at) m))
            ];
        ends =
            let z : length (r ++ i ∷ []) ≡ suc (length r) = n ∙ add-one (length r) in
            ap (after es empty_cut (r ++ i ∷ [])) z ∙ after_suc es empty_cut (r ++ i ∷ []) (length r) (omega arith)
            ∙ ap (λ j. advance (thread_at es j) (after es empty_cut (r ++ i ∷ []) (length r))) at
            ∙ ap (advance (thread_at es i)) cut;
      }

  pub paths_are_runs : Sound es → (r : List ℕ)
      → (Consistent es r → (c : Cut) × Reach es r c × Full es c) × ((c : Cut) → Reach es r c → Full es c → Consistent es r)
  paths_are_runs sound r = (
    (λ run.
        let s = path es sound r run in
        let h = reach_upto r s (length r) (omega arith) in
        (after es empty_cut r (length r), subst (λ p. Reach es p (after es empty_cut r (length r))) (take_all (length r) r (omega arith)) h, s.ends)),
    (λ c h full.
        let w = walk h in
        consistent es sound r (record { follows = w.follows; ends = subst (Full es) (sym w.ends) full })),
  )
