-- Different numbers below m, one for each number below n: n is at most m.
use Rattle.std.proofs.Common.{◌≡◌, ℕ, zero, suc, ◌<◌, ◌≤◌, cond, eqb, ◌⊎◌, sym, ap, ◌∙◌, inl, inr, arith}
use Rattle.std.proofs.lemmas.Bool.{cases_eq, eq-eqb, ne_eqb}

pub record Into (n m : ℕ) (f : ℕ → ℕ) : Type 0 where
  pub below : (i : ℕ) → i < n → f i < m
  pub apart : (i j : ℕ) → i < n → j < n → f i ≡ f j → i ≡ j

-- f, with the value b in place of a
moved : (ℕ → ℕ) → ℕ → ℕ → ℕ → ℕ
moved f a b i = cond (eqb (f i) a) b (f i)

moved_cases : (f : ℕ → ℕ) (a b i : ℕ) → ((f i ≡ a) × (moved f a b i ≡ b)) ⊎ ((f i ≡ a → ⊥) × (moved f a b i ≡ f i))
unfolding moved
moved_cases f a b i =
    elim (cases_eq (f i) a) [
      | inl e ↦ inl (e, ap (λ c. cond c b (f i)) (eq-eqb (f i) a e))
      | inr e ↦ inr (e, ap (λ c. cond c b (f i)) (ne_eqb (f i) a e))
    ]

module _ (n m : ℕ) (f : ℕ → ℕ) (h : Into (suc n) (suc m) f) where
  into_less : Into n m (moved f m (f n))
  into_less = record {
    below = λ i l.
        let b = h.below i (omega arith) in
        let d = h.below n (omega arith) in
        elim (moved_cases f m (f n) i) [
          | inl e ↦
              elim (cases_eq (f n) m) [
                | inl z ↦ absurd (omega (arith, h.apart i n (omega arith) (omega arith) (e.0 ∙ sym z)))
                | inr z ↦ omega (arith, e.1)
              ]
          | inr e ↦ omega (arith, e.0, e.1)
        ];
    apart = λ i j a b e.
        elim (moved_cases f m (f n) i) [
          | inl p ↦
              elim (moved_cases f m (f n) j) [
                | inl q ↦ h.apart i j (omega arith) (omega arith) (p.0 ∙ sym q.0)
                | inr q ↦ absurd (omega (arith, h.apart n j (omega arith) (omega arith) (sym p.1 ∙ e ∙ q.1)))
              ]
          | inr p ↦
              elim (moved_cases f m (f n) j) [
                | inl q ↦ absurd (omega (arith, h.apart i n (omega arith) (omega arith) (sym p.1 ∙ e ∙ q.1)))
                | inr q ↦ h.apart i j (omega arith) (omega arith) (sym p.1 ∙ e ∙ q.1)
              ]
        ];
  }

pub fits : (n m : ℕ) (f : ℕ → ℕ) → Into n m f → n ≤ m
fits zero m f h = omega arith
fits (suc n) zero f h = absurd (omega (arith, h.below n (omega arith)))
fits (suc n) (suc m) f h = omega (arith, fits n m (moved f m (f n)) (into_less n m f h))
