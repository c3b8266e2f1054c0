-- Tests of what was, kept up event by event.
use Rattle.std.proofs.Common.{◌≡◌, ℕ, zero, suc, ◌<◌, ◌≤◌, Bool, true, false, not, ◌&&◌, ◌||◌, Decides, refl, subst, inl, inr, ⊎_elim, arith}
use Rattle.std.proofs.lemmas.Bool.{false≢true, cases_lt}
use Rattle.std.proofs.lemmas.Bool.Decides.{Decides-at, Decides-like, Decides-and, Decides-or}

pub decides_implies : {P Q : Type 0} (x y : Bool) → Decides x P → Decides y Q → Decides (not x || y) (P → Q)
decides_implies true y dx dy = (λ h p. dy.0 h, λ f. dy.1 (f (dx.0 refl)))
decides_implies false y dx dy = (λ h p. absurd (false≢true (dx.1 p)), λ f. refl)

module _ (A : ℕ → Type 0) (a b : ℕ → Bool) (each : (k : ℕ) → Decides (a k) (A (suc k))) (at_first : b 0 ≡ a 0) where
  pub decides_once : ((k : ℕ) → b (suc k) ≡ (a (suc k) || b k)) → (k : ℕ) → Decides (b k) ((m : ℕ) × (1 ≤ m) × (m ≤ suc k) × A m)
  decides_once more zero =
      Decides-at (b 0) (a 0) at_first (Decides-like (a 0)
      (λ p. (1, omega arith, omega arith, p))
      (λ q. let one : q.0 ≡ 1 = omega (arith, q.1, q.2) in subst A one q.3)
      (each 0))
  decides_once more (suc k) =
      Decides-at (b (suc k)) (a (suc k) || b k) (more k) (Decides-like (a (suc k) || b k)
      (⊎_elim (λ p. (suc (suc k), omega arith, omega arith, p)) (λ q. (q.0, q.1, omega (arith, q.2), q.3)))
      (λ q. ⊎_elim (λ l. inr (q.0, q.1, omega arith, q.3)) (λ l. let top : q.0 ≡ suc (suc k) = omega (arith, q.2) in inl (subst A top q.3)) (cases_lt q.0 (suc (suc k))))
      (Decides-or (a (suc k)) (b k) (each (suc k)) (decides_once more k)))

  pub decides_always : ((k : ℕ) → b (suc k) ≡ (a (suc k) && b k)) → (k : ℕ) → Decides (b k) ((m : ℕ) → 1 ≤ m → m ≤ suc k → A m)
  decides_always more zero =
      Decides-at (b 0) (a 0) at_first (Decides-like (a 0)
      (λ p m l u. let one : 1 ≡ m = omega arith in subst A one p)
      (λ f. f 1 (omega arith) (omega arith))
      (each 0))
  decides_always more (suc k) =
      Decides-at (b (suc k)) (a (suc k) && b k) (more k) (Decides-like (a (suc k) && b k)
      (λ p m l u. ⊎_elim (λ h. p.1 m l (omega arith)) (λ h. let top : suc (suc k) ≡ m = omega arith in subst A top p.0) (cases_lt m (suc (suc k))))
      (λ f. (f (suc (suc k)) (omega arith) (omega arith), λ m l u. f m l (omega arith)))
      (Decides-and (a (suc k)) (b k) (each (suc k)) (decides_always more k)))

module _ (A B : ℕ → Type 0) (a b c : ℕ → Bool) (each : (k : ℕ) → Decides (a k) (A (suc k))) (each' : (k : ℕ) → Decides (b k) (B (suc k)))
    (at_first : c 0 ≡ b 0) (more : (k : ℕ) → c (suc k) ≡ (b (suc k) || (a (suc k) && c k))) where
  pub decides_since : (k : ℕ) → Decides (c k) ((m : ℕ) × (1 ≤ m) × (m ≤ suc k) × B m × ((j : ℕ) → m < j → j ≤ suc k → A j))
  decides_since zero =
      Decides-at (c 0) (b 0) at_first (Decides-like (b 0)
      (λ p. (1, omega arith, omega arith, p, λ j l u. absurd (omega arith)))
      (λ q. let one : q.0 ≡ 1 = omega (arith, q.1, q.2) in subst B one q.3)
      (each' 0))
  decides_since (suc k) =
      Decides-at (c (suc k)) (b (suc k) || (a (suc k) && c k)) (more k) (Decides-like (b (suc k) || (a (suc k) && c k))
      (⊎_elim
      (λ p. (suc (suc k), omega arith, omega arith, p, λ j l u. absurd (omega arith)))
      (λ r. let q = r.1 in (
        q.0,
        q.1,
        omega (arith, q.2),
        q.3,
        λ j l u.
            ⊎_elim (λ h. q.4 j l (omega arith)) (λ h. let top : suc (suc k) ≡ j = omega arith in subst A top r.0) (cases_lt j (suc (suc k))),
      )))
      (λ q. ⊎_elim
      (λ l. inr (q.4 (suc (suc k)) l (omega arith), (q.0, q.1, omega arith, q.3, λ j h u. q.4 j h (omega arith))))
      (λ l. let top : q.0 ≡ suc (suc k) = omega (arith, q.2) in inl (subst B top q.3))
      (cases_lt q.0 (suc (suc k))))
      (Decides-or (b (suc k)) (a (suc k) && c k) (each' (suc k)) (Decides-and (a (suc k)) (c k) (each (suc k)) (decides_since k))))
