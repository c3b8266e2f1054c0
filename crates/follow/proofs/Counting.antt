-- Counting the numbers below a bound that have a property.
use Rattle.std.proofs.Common.{◌≡◌, ℕ, zero, suc, ◌+◌, ◌<◌, ◌≤◌, ◌⊎◌, sym, refl, ap, ◌∙◌, subst, inl, inr, arith}
use Rattle.order.specs.Clocks.{Number}
use Rattle.order.specs.Clocks.Number.{none, one_more, no_more}
use Rattle.std.proofs.lemmas.Bool.{cases_lt}
use Rattle.follow.specs.Balance.{over_threads}

pub number_like : (P Q : ℕ → Type 0) {n v : ℕ} → Number P n v → ((j : ℕ) → j < n → P j → Q j) → ((j : ℕ) → j < n → Q j → P j) → Number Q n v
number_like P Q none f g = none
number_like P Q (one_more {n = n} r p) f g = one_more (number_like P Q r (λ j l. f j (omega arith)) (λ j l. g j (omega arith))) (f n (omega arith) p)
number_like P Q (no_more {n = n} r p) f g = no_more (number_like P Q r (λ j l. f j (omega arith)) (λ j l. g j (omega arith))) (λ h. p (g n (omega arith) h))

pub number_le : (P : ℕ → Type 0) {n v : ℕ} → Number P n v → v ≤ n
number_le P none = omega arith
number_le P (one_more r p) = let h = number_le P r in omega arith
number_le P (no_more r p) = let h = number_le P r in omega arith

pub number_none : (P : ℕ → Type 0) (n : ℕ) → ((j : ℕ) → j < n → P j → ⊥) → Number P n 0
number_none P zero f = none
number_none P (suc n) f = no_more (number_none P n (λ j l. f j (omega arith))) (f n (omega arith))

-- what is counted below one more
pub record Inverse (P : ℕ → Type 0) (n v : ℕ) : Type 0 where
  pub cases : ((w : ℕ) × (v ≡ suc w) × Number P n w × P n) ⊎ (Number P n v × (P n → ⊥))

inverse : (P : ℕ → Type 0) {n v : ℕ} → Number P (suc n) v → Inverse P n v
inverse P (one_more {c = w} r p) = record { cases = inl (w, refl, r, p) }
inverse P (no_more r p) = record { cases = inr (r, p) }

inverse_zero : (P : ℕ → Type 0) {v : ℕ} → Number P 0 v → v ≡ 0
inverse_zero P none = refl

pub number_once : (P : ℕ → Type 0) {n v w : ℕ} → Number P n v → Number P n w → v ≡ w
number_once P none s = sym (inverse_zero P s)
number_once P (one_more r p) s =
    elim (inverse P s).cases [ inl a ↦ ap suc (number_once P r a.2) ∙ sym a.1 | inr a ↦ absurd (a.1 p) ]
number_once P (no_more r p) s =
    elim (inverse P s).cases [ inl a ↦ absurd (p a.3) | inr a ↦ number_once P r a.0 ]

pub number_sum : (P Q : ℕ → Type 0) {n v w : ℕ} → Number P n v → Number Q n w → ((j : ℕ) → j < n → P j → Q j → ⊥) → Number (λ j. P j ⊎ Q j) n (v + w)
number_sum P Q none s f = let e = inverse_zero Q s in subst (Number (λ j. P j ⊎ Q j) 0) (omega arith) none
number_sum P Q (one_more {n = n} {c = v} r p) s f =
    elim (inverse Q s).cases [
      | inl a ↦ absurd (f n (omega arith) p a.3)
      | inr a ↦ subst (Number (λ j. P j ⊎ Q j) (suc n)) (omega arith) (one_more (number_sum P Q r a.0 (λ j l. f j (omega arith))) (inl p))
    ]
number_sum P Q (no_more {n = n} {c = v} r p) s f =
    elim (inverse Q s).cases [
      | inl a ↦ subst (Number (λ j. P j ⊎ Q j) (suc n)) (omega (arith, a.1)) (one_more (number_sum P Q r a.2 (λ j l. f j (omega arith))) (inr a.3))
      | inr a ↦ no_more (number_sum P Q r a.0 (λ j l. f j (omega arith))) (λ h. elim h [ inl x ↦ p x | inr x ↦ a.1 x ])
    ]

-- all that are a P are a Q
pub record Inside (P Q : ℕ → Type 0) (n v w : ℕ) : Type 0 where
  pub fewer : v ≤ w
  pub same : v ≡ w → (j : ℕ) → j < n → Q j → P j
  pub more : v < w → (j : ℕ) × (j < n) × Q j × (P j → ⊥)

module _ (P Q : ℕ → Type 0) where
  all_below : (n : ℕ) → ((j : ℕ) → j < n → Q j → P j) → (Q n → P n) → (j : ℕ) → j < suc n → Q j → P j
  all_below n f h j l q =
      elim (cases_lt j n) [ inl b ↦ f j b q | inr b ↦ let z : j ≡ n = omega arith in subst P (sym z) (h (subst Q z q)) ]

  pub number_inside : {n v w : ℕ} → Number P n v → Number Q n w → ((j : ℕ) → j < n → P j → Q j) → Inside P Q n v w
  number_inside none s f = let e = inverse_zero Q s in record { fewer = omega arith; same = λ e j l. absurd (omega arith); more = λ l. absurd (omega arith) }
  number_inside (one_more {n = n} {c = v} r p) s f =
      elim (inverse Q s).cases [
        | inl a ↦
            let ih = number_inside r a.2 (λ j l. f j (omega arith)) in
            record {
              fewer = omega (arith, ih.fewer, a.1);
              same = λ e. all_below n (ih.same (omega (arith, a.1))) (λ q. p);
              more = λ l. let m = ih.more (omega (arith, a.1)) in (m.0, omega arith, m.2, m.3);
            }
        | inr a ↦ absurd (a.1 (f n (omega arith) p))
      ]
  number_inside (no_more {n = n} {c = v} r p) s f =
      elim (inverse Q s).cases [
        | inl a ↦
            let ih = number_inside r a.2 (λ j l. f j (omega arith)) in
            record {
              fewer = omega (arith, ih.fewer, a.1);
              same = λ e. absurd (omega (arith, ih.fewer, a.1));
              more = λ l. (n, omega arith, a.3, p);
            }
        | inr a ↦
            let ih = number_inside r a.0 (λ j l. f j (omega arith)) in
            record {
              fewer = ih.fewer;
              same = λ e. all_below n (ih.same e) (λ q. absurd (a.1 q));
              more = λ l. let m = ih.more l in (m.0, omega arith, m.2, m.3);
            }
      ]

-- a sum over threads, of which no two count one event
module _ (P : ℕ → ℕ → Type 0) (apart : (t u j : ℕ) → P t j → P u j → t ≡ u) where
  pub number_threads : (n m : ℕ) (f : ℕ → ℕ) → ((t : ℕ) → t < n → Number (P t) m (f t)) → Number (λ j. (t : ℕ) × (t < n) × P t j) m (over_threads f n)
  number_threads zero m f h = number_none _ m (λ j l p. omega (arith, p.1))
  number_threads (suc n) m f h =
      number_like (λ j. ((t : ℕ) × (t < n) × P t j) ⊎ P n j) (λ j. (t : ℕ) × (t < suc n) × P t j)
      (number_sum (λ j. (t : ℕ) × (t < n) × P t j) (P n) (number_threads n m f (λ t l. h t (omega arith))) (h n (omega arith))
      (λ j l a b. omega (arith, apart a.0 n j a.2 b, a.1)))
      (λ j l a. elim a [ inl x ↦ (x.0, omega (arith, x.1), x.2) | inr x ↦ (n, omega arith, x) ])
      (λ j l a. elim (cases_lt a.0 n) [ inl b ↦ inl (a.0, b, a.2) | inr b ↦ let z : a.0 ≡ n = omega (arith, a.1) in inr (subst (λ t. P t j) z a.2) ])
