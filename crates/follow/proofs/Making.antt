-- The tables of a noted list, summed up.
use Rattle.std.proofs.Common.{◌≡◌, ℕ, zero, suc, ◌+◌, ◌%◌, ◌^◌, ◌<◌, ◌≤◌, ◌⊎◌, List, length, get_or, sym, refl, ap, ◌∙◌, subst, inl, inr, mod-eq_of_lt, arith}
use Rattle.events.specs.declared.event.Event.{Event}
use Rattle.events.specs.Noting.{Opening, subjects, Noted}
use Rattle.order.specs.Trace.{place_at, subject_at}
use Rattle.order.specs.Clocks.{Number}
use Rattle.order.proofs.Feeders.{one_feeder}
use Rattle.order.proofs.Noting.{sound_of, within_of}
use Rattle.std.proofs.lemmas.Bool.{cases_lt}
use Rattle.follow.specs.declared.tables.Tables.{Tables}
use Rattle.follow.specs.declared.tables.Tally.{Tally}
use Rattle.follow.specs.Balance.{LedBy, TakenBy}
use Rattle.follow.specs.Made.{tally_at, MadeOf, Small}
use Rattle.follow.specs.Filling.{both, Summed}
use Rattle.follow.proofs.Counting.{number_like, number_le, number_sum}
use Rattle.follow.proofs.Filling.{Fit, LedAt, TakenAt, Filled, takes_below}
use Rattle.follow.proofs.Lengths.{few_events}

pub fit_of : (o : Opening) (es : List Event) → Small o → Noted o es → Fit es
fit_of o es small noted =
    let within = within_of o es noted in
    record {
      sound = sound_of o es noted;
      few = λ i l. omega (arith, within.threads i l, small.0);
      places = λ i l. omega (arith, within.places i l);
      short = few_events es (λ i l. omega (arith, within.threads i l, small.0)) within.counts;
      variables = λ i l h.
          elim h [
            | inl q ↦ let g : subject_at es i < subjects o 1 = subst (λ z. subject_at es i < subjects o z) q (within.subjects_below i l) in omega (arith, small.1)
            | inr q ↦ let g : subject_at es i < subjects o 2 = subst (λ z. subject_at es i < subjects o z) q (within.subjects_below i l) in omega (arith, small.1)
          ];
      locks = λ i l h.
          elim h [
            | inl q ↦ let g : subject_at es i < subjects o 3 = subst (λ z. subject_at es i < subjects o z) q (within.subjects_below i l) in g
            | inr q ↦ let g : subject_at es i < subjects o 4 = subst (λ z. subject_at es i < subjects o z) q (within.subjects_below i l) in g
          ];
    }

-- what is counted place by place, summed up
module _ (At To : ℕ → ℕ → Type 0) (n : ℕ) (short : n ≤ 2040)
    (base : (j : ℕ) → (At 0 j → To 0 j) × (To 0 j → At 0 j))
    (step : (c j : ℕ) → (At (suc c) j ⊎ To c j → To (suc c) j) × (To (suc c) j → At (suc c) j ⊎ To c j))
    (apart : (c j : ℕ) → At (suc c) j → To c j → ⊥)
    (of : Tally → ℕ) (adds : (x y : Tally) → of (both x y) ≡ (of x + of y) % 2 ^ 16)
    (xs ys : List Tally) (sums : Summed xs ys) (t b : ℕ) (few : t < 8) (below : b < 48)
    (each : (p : ℕ) → p < 256 → Number (At p) n (of (tally_at xs t p b))) where
  pub number_up_to : (c : ℕ) → c < 256 → Number (To c) n (of (tally_at ys t c b))
  number_up_to zero l =
      subst (Number (To 0) n) (sym (ap of (sums.first t b few below))) (number_like (At 0) (To 0) (each 0 l) (λ j m. (base j).0) (λ j m. (base j).1))
  number_up_to (suc c) l =
      let both = number_sum (At (suc c)) (To c) (each (suc c) l) (number_up_to c (omega arith)) (λ j m. apart c j) in
      let small : of (tally_at xs t (suc c) b) + of (tally_at ys t c b) < 2 ^ 16
      = omega (arith, number_le (λ j. At (suc c) j ⊎ To c j) both) in
      subst (Number (To (suc c)) n) (sym (ap of (sums.more t c b few l below) ∙ adds _ _ ∙ mod-eq_of_lt small))
      (number_like (λ j. At (suc c) j ⊎ To c j) (To (suc c)) both (λ j m. (step c j).0) (λ j m. (step c j).1))

module _ (es : List Event) (k s t : ℕ) where
  led_step : (c j : ℕ) → LedBy es k s t (suc c) j → LedAt es k s t (suc c) j ⊎ LedBy es k s t c j
  led_step c j h =
      elim (cases_lt (place_at es h.1.0) (suc c)) [
        | inl l ↦ inr (h.0, (h.1.0, h.1.1, h.1.2, omega arith))
        | inr l ↦ inl (h.0, (h.1.0, h.1.1, h.1.2, omega (arith, h.1.3)))
      ]

  led_back : (c j : ℕ) → LedAt es k s t (suc c) j ⊎ LedBy es k s t c j → LedBy es k s t (suc c) j
  led_back c j (inl h) = (h.0, (h.1.0, h.1.1, h.1.2, omega (arith, h.1.3)))
  led_back c j (inr h) = (h.0, (h.1.0, h.1.1, h.1.2, omega (arith, h.1.3)))

  led_apart : (c j : ℕ) → LedAt es k s t (suc c) j → LedBy es k s t c j → ⊥
  led_apart c j a b =
      let q : place_at es a.1.0 ≡ place_at es b.1.0 = ap (place_at es) (one_feeder es a.1.0 b.1.0 j a.1.1 b.1.1) in
      omega (arith, a.1.3, b.1.3)

  led_base : (j : ℕ) → (LedAt es k s t 0 j → LedBy es k s t 0 j) × (LedBy es k s t 0 j → LedAt es k s t 0 j)
  led_base j = (
    (λ h. (h.0, (h.1.0, h.1.1, h.1.2, omega (arith, h.1.3)))),
    (λ h. (h.0, (h.1.0, h.1.1, h.1.2, omega (arith, h.1.3)))),
  )

  taken_step : (c j : ℕ) → TakenBy es k s t (suc c) j → TakenAt es k s t (suc c) j ⊎ TakenBy es k s t c j
  taken_step c j h =
      elim (cases_lt (place_at es j) (suc c)) [
        | inl l ↦ inr (h.0, h.1, omega arith)
        | inr l ↦ inl (h.0, h.1, omega (arith, h.2))
      ]

  taken_back : (c j : ℕ) → TakenAt es k s t (suc c) j ⊎ TakenBy es k s t c j → TakenBy es k s t (suc c) j
  taken_back c j (inl h) = (h.0, h.1, omega (arith, h.2))
  taken_back c j (inr h) = (h.0, h.1, omega (arith, h.2))

  taken_base : (j : ℕ) → (TakenAt es k s t 0 j → TakenBy es k s t 0 j) × (TakenBy es k s t 0 j → TakenAt es k s t 0 j)
  taken_base j = ((λ h. (h.0, h.1, omega (arith, h.2))), (λ h. (h.0, h.1, omega (arith, h.2))))

-- the tables v of all events, with their sums in w
pub made_of : (es : List Event) → Fit es → (v w : Tables) → Filled es (length es) v
    → w.total ≡ length es → w.counts ≡ v.counts → w.standings ≡ v.standings → w.groups ≡ v.groups → Summed v.tallies w.tallies → MadeOf es w
made_of es fit v w f total counts standings groups tallies = record {
  sound = fit.sound;
  few = fit.few;
  variables = λ i l q. fit.variables i l (inr q);
  locks = λ i l q. fit.locks i l (inl q);
  total = total;
  counts = λ t l. ap (λ (xs : List ℕ). get_or xs t 0) counts ∙ f.placed_so.counts t l;
  events = λ i l. rw standings (f.placed_so.events i l);
  sources = λ i l. rw standings (f.placed_so.sources i l);
  starts = λ k s b h. rw groups (f.counted.starts k s b h);
  led = λ k s b h t c few l.
      number_up_to (LedAt es k s t) (LedBy es k s t) (length es) fit.short (led_base es k s t)
      (λ d j. (led_back es k s t d j, led_step es k s t d j)) (led_apart es k s t)
      (λ (x : Tally). x.led) (λ x y. refl) v.tallies w.tallies tallies t b few (takes_below k s b h) (λ p m. f.counted.led k s b h t p few m) c l;
  taken = λ k s b h t c few l.
      number_up_to (TakenAt es k s t) (TakenBy es k s t) (length es) fit.short (taken_base es k s t)
      (λ d j. (taken_back es k s t d j, taken_step es k s t d j)) (λ d j a z. omega (arith, a.2, z.2))
      (λ (x : Tally). x.taken) (λ x y. refl) v.tallies w.tallies tallies t b few (takes_below k s b h) (λ p m. f.counted.taken k s b h t p few m) c l;
}
