-- The events of a thread that are f or before f are its first ones, so their number tells which they are.
use Rattle.std.proofs.Common.{◌≡◌, ℕ, zero, suc, ◌<◌, ◌≤◌, List, length, sym, refl, ap, ◌∙◌, subst, inl, inr, arith}
use Rattle.std.proofs.lemmas.Bool.{cases_lt, cases_eq}
use Rattle.events.specs.declared.event.Event.{Event}
use Rattle.order.specs.Trace.{thread_at, place_at}
use Rattle.order.specs.Before.{Before, UpTo}
use Rattle.order.specs.Before.Before.{in_thread, chain}
use Rattle.order.specs.Clocks.{Number, Counts}
use Rattle.order.specs.Clocks.Number.{none, one_more, no_more}
use Rattle.order.specs.Sound.{count, Sound}
use Rattle.order.proofs.Places.{count_own, count_other, count_up, count_met, places_up, same_event}

-- what is before e or is e is before whatever e is before or is
pub upto_chain : (es : List Event) (a e f : ℕ) → Before es a e → UpTo es e f → Before es a f
upto_chain es a e f b (inl q) = subst (Before es a) q b
upto_chain es a e f b (inr c) = chain b c

module _ (es : List Event) (sound : Sound es) where
  -- an earlier event of the thread is before f too
  pub upto_down : (a e f : ℕ) → a < length es → e < length es → thread_at es a ≡ thread_at es e → place_at es a ≤ place_at es e
      → UpTo es e f → UpTo es a f
  upto_down a e f x y t p u =
      elim (cases_lt (place_at es a) (place_at es e)) [
        | inl l ↦ inr (upto_chain es a e f (in_thread x y t l) u)
        | inr l ↦
            let q : a ≡ e = same_event es sound a e x y t (omega arith) in
            subst (λ i. UpTo es i f) (sym q) u
      ]

  place_in : (i t : ℕ) → i < length es → thread_at es i ≡ t → place_at es i ≡ suc (count es t i)
  place_in i t h e = subst (λ u. place_at es i ≡ suc (count es u i)) e (sound.places i h)

-- c is the last place within, among the first n events
pub record Within (es : List Event) (f t n c : ℕ) : Type 0 where
  pub bound : c ≤ count es t n
  pub passes : (e : ℕ) → e < n → thread_at es e ≡ t → (UpTo es e f → place_at es e ≤ c) × (place_at es e ≤ c → UpTo es e f)
  pub attained : 0 < c → (e : ℕ) × (e < n) × (thread_at es e ≡ t) × (place_at es e ≡ c) × UpTo es e f

module _ (es : List Event) (sound : Sound es) (f t : ℕ) where
  pub within : {n c : ℕ} → Number (λ e. (thread_at es e ≡ t) × UpTo es e f) n c → n ≤ length es → Within es f t n c
  within none h = record { bound = omega arith; passes = λ e l q. absurd (omega arith); attained = λ l. absurd (omega arith) }
  within (one_more {n = n} {c = c} r p) h =
      let ih = within r (omega arith) in
      let at = place_in es sound n t h p.0 in
      let own = count_own es t n p.0 in
      let full : c ≡ count es t n =
      elim (cases_lt c (count es t n)) [
        | inl l ↦
            let s = count_met es t c n l in
            let b : s.0 < length es = omega arith in
            let q = place_in es sound s.0 t b s.2 in
            let u = upto_down es sound s.0 n f b h (s.2 ∙ sym p.0) (omega arith) p.1 in
            absurd (omega (arith, (ih.passes s.0 s.1 s.2).0 u))
        | inr l ↦ omega (arith, ih.bound)
      ] in
      record {
        bound = omega arith;
        passes = λ e l q.
            elim (cases_lt e n) [
              | inl k ↦
                  let b : e < length es = omega arith in
                  let up = places_up es sound e n k h (q ∙ sym p.0) in
                  (λ u. omega (arith, (ih.passes e k q).0 u), λ _. upto_down es sound e n f b h (q ∙ sym p.0) (omega arith) p.1)
              | inr k ↦
                  let z : e ≡ n = omega arith in
                  (λ _. omega (arith, ap (place_at es) z), λ _. subst (λ i. UpTo es i f) (sym z) p.1)
            ];
        attained = λ _. (n, omega arith, p.0, omega arith, p.1);
      }
  within (no_more {n = n} {c = c} r p) h =
      let ih = within r (omega arith) in
      let up = count_up es t n (suc n) (omega arith) in
      record {
        bound = omega (arith, ih.bound);
        passes = λ e l q.
            elim (cases_lt e n) [
              | inl k ↦ ih.passes e k q
              | inr k ↦
                  let z : e ≡ n = omega arith in
                  let q' : thread_at es n ≡ t = ap (thread_at es) (sym z) ∙ q in
                  let at = place_in es sound n t h q' in (
                    (λ u. absurd (p (q', subst (λ i. UpTo es i f) z u))),
                    (λ u. absurd (omega (arith, ih.bound, ap (place_at es) z))),
                  )
            ];
        attained = λ l. let s = ih.attained l in (s.0, omega arith, s.2, s.3, s.4);
      }

  -- the other way: a bound of that kind is the number
  module _ (c : ℕ) (h : (e : ℕ) → e < length es → thread_at es e ≡ t → (UpTo es e f → place_at es e ≤ c) × (place_at es e ≤ c → UpTo es e f)) where
    record NumberedUpTo (n : ℕ) : Type 0 where
      d : ℕ
      number : Number (λ e. (thread_at es e ≡ t) × UpTo es e f) n d
      below : count es t n ≤ c → d ≡ count es t n
      above : c ≤ count es t n → d ≡ c

    number_up : (n : ℕ) → n ≤ length es → NumberedUpTo n
    number_up zero l = record { d = 0; number = none; below = λ _. refl; above = λ k. omega arith }
    number_up (suc n) l =
        let ih = number_up n (omega arith) in
        elim (cases_eq (thread_at es n) t) [
          | inl q ↦
              let at = place_in es sound n t l q in
              let own = count_own es t n q in
              elim (cases_lt (count es t n) c) [
                | inl k ↦ record {
                  d = suc ih.d;
                  number = one_more ih.number (q, (h n l q).1 (omega arith));
                  below = λ m. omega (arith, ih.below (omega arith));
                  above = λ m. omega (arith, ih.below (omega arith));
                }
                | inr k ↦ record {
                  d = ih.d;
                  number = no_more ih.number (λ p. omega (arith, (h n l q).0 p.1));
                  below = λ m. absurd (omega arith);
                  above = λ m. ih.above k;
                }
              ]
          | inr q ↦
              let other = count_other es t n q in
              record {
                d = ih.d;
                number = no_more ih.number (λ p. q p.0);
                below = λ m. omega (arith, ih.below (omega arith));
                above = λ m. ih.above (omega arith);
              }
        ]

    pub counts_from : c ≤ count es t (length es) → Counts es f t c
    counts_from l =
        let s = number_up (length es) (omega arith) in
        subst (Number (λ e. (thread_at es e ≡ t) × UpTo es e f) (length es)) (s.above l) s.number

pub before_by_clock : (es : List Event) → Sound es → (e f c : ℕ) → e < length es → f < length es → Counts es f (thread_at es e) c
    → (UpTo es e f → place_at es e ≤ c) × (place_at es e ≤ c → UpTo es e f)
before_by_clock es sound e f c a b n = (within es sound f (thread_at es e) n (omega arith)).passes e a refl
