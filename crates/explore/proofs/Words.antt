-- Paths from their ends, as they are met on the way back.
use Rattle.std.proofs.Common.{◌≡◌, ℕ, ◌<◌, ◌≤◌, ◌⊎◌, List, [], ◌∷◌, reverse, length, sym, ap, ◌∙◌, subst, ap₂, inl, inr, ⊎_elim, arith}
use mathlib.Core.List.{reverse_aux, reverse-reverse}
use Rattle.std.proofs.lemmas.List.{length-reverse}
use Rattle.std.proofs.Math.Nat.{eq-or-lt_of_le}
use Rattle.explore.specs.Paths.{Less, Sooner}

-- p comes ahead of q: by length first, and then by the last place at which they differ
abbrev pub Lt : List ℕ → List ℕ → Type 0
Lt [] [] = ⊥
Lt [] (b ∷ q) = Unit {0}
Lt (a ∷ p) [] = ⊥
Lt (a ∷ p) (b ∷ q) = Lt p q ⊎ ((p ≡ q) × (a < b))

abbrev pub Le : List ℕ → List ℕ → Type 0
Le p q = (p ≡ q) ⊎ Lt p q

lt_trans : (p q r : List ℕ) → Lt p q → Lt q r → Lt p r
lt_trans [] [] r h k = absurd h
lt_trans [] (b ∷ q) [] h k = absurd k
lt_trans [] (b ∷ q) (c ∷ r) h k = tt
lt_trans (a ∷ p) [] r h k = absurd h
lt_trans (a ∷ p) (b ∷ q) [] h k = absurd k
lt_trans (a ∷ p) (b ∷ q) (c ∷ r) (inl h) (inl k) = inl (lt_trans p q r h k)
lt_trans (a ∷ p) (b ∷ q) (c ∷ r) (inl h) (inr k) = inl (subst (λ (w : List ℕ). Lt p w) k.0 h)
lt_trans (a ∷ p) (b ∷ q) (c ∷ r) (inr h) (inl k) = inl (subst (λ (w : List ℕ). Lt w r) (sym h.0) k)
lt_trans (a ∷ p) (b ∷ q) (c ∷ r) (inr h) (inr k) = inr (h.0 ∙ k.0, omega arith)

pub lt-le : (p q r : List ℕ) → Lt p q → Le q r → Lt p r
lt-le p q r h (inl e) = subst (λ (w : List ℕ). Lt p w) e h
lt-le p q r h (inr k) = lt_trans p q r h k

pub le_cons : (c a : ℕ) (t p : List ℕ) → c ≤ a → Le t p → Le (c ∷ t) (a ∷ p)
le_cons c a t p h (inl e) = ⊎_elim (λ q. inl (ap₂ ◌∷◌ q e)) (λ l. inr (inr (e, l))) (eq-or-lt_of_le h)
le_cons c a t p h (inr k) = inr (inl k)

same_front : (p u w : List ℕ) → Less u w → Less (reverse_aux p u) (reverse_aux p w)
same_front [] u w h = h
same_front (c ∷ p) u w h = same_front p (c ∷ u) (c ∷ w) (omega arith, λ l. h)

lt_less : (p q u w : List ℕ) → Lt p q → length q ≤ length p → Less (reverse_aux p u) (reverse_aux q w)
lt_less [] [] u w h l = absurd h
lt_less [] (b ∷ q) u w h l = absurd (omega arith)
lt_less (a ∷ p) [] u w h l = absurd h
lt_less (a ∷ p) (b ∷ q) u w (inl h) l = lt_less p q (a ∷ u) (b ∷ w) h (omega arith)
lt_less (a ∷ p) (b ∷ q) u w (inr h) l =
    subst (λ (z : List ℕ). Less (reverse_aux p (a ∷ u)) (reverse_aux z (b ∷ w))) h.0 (same_front p (a ∷ u) (b ∷ w) (omega arith, λ k. absurd (omega arith)))

lt_length : (p q : List ℕ) → Lt p q → length p ≤ length q
lt_length [] [] h = absurd h
lt_length [] (b ∷ q) h = omega arith
lt_length (a ∷ p) [] h = absurd h
lt_length (a ∷ p) (b ∷ q) (inl h) = omega (arith, lt_length p q h)
lt_length (a ∷ p) (b ∷ q) (inr h) = omega (arith, ap length h.0)

pub lt_sooner : (p q : List ℕ) → Lt p q → Sooner (reverse p) (reverse q)
lt_sooner p q h = (simp length-reverse (lt_length p q h), λ l. lt_less p q [] [] h (simp length-reverse at l))

pub le_sooner : (p q : List ℕ) → Le p (reverse q) → (reverse p ≡ q) ⊎ Sooner (reverse p) q
le_sooner p q (inl e) = inl (ap reverse e ∙ reverse-reverse q)
le_sooner p q (inr h) = inr (subst (λ (z : List ℕ). Sooner (reverse p) z) (reverse-reverse q) (lt_sooner p (reverse q) h))
