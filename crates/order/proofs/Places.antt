-- What the places of a sound list give: one event for each place of a thread, and no gap.
use Rattle.std.proofs.Common.{◌≡◌, ℕ, zero, suc, ◌<◌, ◌≤◌, List, length, sym, ap, ◌∙◌, inl, inr, arith}
use Rattle.std.proofs.lemmas.Bool.{cases_lt, cases_eq, cases_order, eq-eqb, ne_eqb}
use Rattle.events.specs.declared.event.Event.{Event}
use Rattle.order.specs.Trace.{thread_at, place_at}
use Rattle.order.specs.Sound.{count, Sound}

pub count_own : (es : List Event) (t i : ℕ) → thread_at es i ≡ t → count es t (suc i) ≡ suc (count es t i)
count_own es t i h = rw (eq-eqb (thread_at es i) t h)

pub count_other : (es : List Event) (t i : ℕ) → (thread_at es i ≡ t → ⊥) → count es t (suc i) ≡ count es t i
count_other es t i h = rw (ne_eqb (thread_at es i) t h)

pub count_up : (es : List Event) (t i j : ℕ) → i ≤ j → count es t i ≤ count es t j
count_up es t i zero h = let e : i ≡ 0 = omega arith in rw e (omega arith)
count_up es t i (suc j) h =
    elim (cases_lt j i) [
      | inl l ↦ let e : i ≡ suc j = omega arith in rw e (omega arith)
      | inr l ↦
          let ih = count_up es t i j l in
          elim (cases_eq (thread_at es j) t) [
            | inl e ↦ omega (arith, count_own es t j e)
            | inr n ↦ omega (arith, count_other es t j n)
          ]
    ]

-- the place that a count passes belongs to some event
pub count_met : (es : List Event) (t p i : ℕ) → p < count es t i → (j : ℕ) × (j < i) × (thread_at es j ≡ t) × (count es t j ≡ p)
count_met es t p zero h = absurd (omega arith)
count_met es t p (suc i) h =
    elim (cases_lt p (count es t i)) [
      | inl l ↦ let r = count_met es t p i l in (r.0, omega arith, r.2, r.3)
      | inr l ↦
          elim (cases_eq (thread_at es i) t) [
            | inl e ↦ (i, omega arith, e, omega (arith, count_own es t i e))
            | inr n ↦ absurd (omega (arith, count_other es t i n))
          ]
    ]

module _ (es : List Event) (sound : Sound es) where
  -- of two events of a thread, the one noted later has the larger place
  pub places_up : (i j : ℕ) → i < j → j < length es → thread_at es i ≡ thread_at es j → place_at es i < place_at es j
  places_up i j l m e =
      let own = count_own es (thread_at es j) i e in
      let up = count_up es (thread_at es j) (suc i) j l in
      let a : place_at es i ≡ suc (count es (thread_at es j) i) = rw (← e) (sound.places i (omega arith)) in
      omega (arith, sound.places j m)

  pub same_event : (i j : ℕ) → i < length es → j < length es → thread_at es i ≡ thread_at es j → place_at es i ≡ place_at es j → i ≡ j
  same_event i j a b e p =
      elim (cases_order i j) [
        | inl q ↦ q
        | inr q ↦ elim q [
          | inl l ↦ absurd (omega (arith, places_up i j l b e))
          | inr l ↦ absurd (omega (arith, places_up j i l a (sym e)))
        ]
      ]

  -- each smaller place of a thread has its event
  pub place_met : (i p : ℕ) → i < length es → suc p < place_at es i
      → (j : ℕ) × (j < length es) × (thread_at es j ≡ thread_at es i) × (place_at es j ≡ suc p)
  place_met i p a h =
      let r = count_met es (thread_at es i) p i (omega (arith, sound.places i a)) in
      let b : r.0 < length es = omega arith in
      (r.0, b, r.2, sound.places r.0 b ∙ ap suc (ap (λ t. count es t r.0) r.2 ∙ r.3))
