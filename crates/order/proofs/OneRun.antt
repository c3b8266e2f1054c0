-- A thread list has at most one run: the cut and the thread tell the event.
use Rattle.std.proofs.Common.{◌≡◌, ℕ, suc, List, [], ◌∷◌, map, sym, refl, ap, ◌∙◌, subst, ap₂, arith}
use Rattle.events.specs.declared.event.Event.{Event}
use Rattle.order.specs.Trace.{thread_at, place_at}
use Rattle.order.specs.Runs.{Consistent, thread_list}
use Rattle.order.specs.Cuts.{Cut, empty_cut, advance}
use Rattle.order.specs.Sound.{Sound}
use Rattle.order.proofs.Places.{same_event}
use Rattle.order.proofs.Cuts.{Steps}
use Rattle.order.proofs.Paths.{path}

module _ (es : List Event) (sound : Sound es) where
  steps_tail : (c : Cut) (i : ℕ) (r : List ℕ) → Steps es c (i ∷ r) → Steps es (advance (thread_at es i) c) r
  steps_tail c i r s = record { follows = λ k h. s.follows (suc k) (omega arith); ends = s.ends }

  same_steps : (c : Cut) (r s : List ℕ) → Steps es c r → Steps es c s → map (thread_at es) r ≡ map (thread_at es) s → r ≡ s
  same_steps c [] [] a b e = refl
  same_steps c [] (j ∷ s) a b e = cc
  same_steps c (i ∷ r) [] a b e = cc
  same_steps c (i ∷ r) (j ∷ s) a b e =
      let t : thread_at es i ≡ thread_at es j = cc in
      let ts : map (thread_at es) r ≡ map (thread_at es) s = cc in
      let m = a.follows 0 (omega arith) in
      let n = b.follows 0 (omega arith) in
      let p : place_at es i ≡ place_at es j = m.next ∙ ap (λ u. suc (c u)) t ∙ sym n.next in
      let q : i ≡ j = same_event es sound i j m.noted n.noted t p in
      ap₂ (λ u us. u ∷ us) q
      (same_steps (advance (thread_at es i) c) r s (steps_tail c i r a) (subst (λ u. Steps es (advance u c) s) (sym t) (steps_tail c j s b)) ts)

pub one_run : (es : List Event) → Sound es → (r s : List ℕ) → Consistent es r → Consistent es s → thread_list es r ≡ thread_list es s → r ≡ s
one_run es sound r s a b e = same_steps es sound empty_cut r s (path es sound r a) (path es sound s b) e
