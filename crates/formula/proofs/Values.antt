-- A variable's current value, event by event.
use Rattle.std.proofs.Common.{◌≡◌, ℕ, zero, suc, Bool, true, false, cond, eqb, List, get_or, ℤ, pos, ◌<ℤ◌, Decides, sym, refl, ap, ◌∙◌, subst, inl, inr, ⊎_elim, arith}
use lib.Signed.{lt_z}
use Rattle.std.proofs.lemmas.Int.{ints}
use Rattle.std.proofs.lemmas.Bool.{cases_lt, both_ways}
use Rattle.std.proofs.lemmas.Bool.Decides.{Decides-eqb, Decides-and, Decides-like}
use Rattle.events.specs.declared.event.Action.{Action}
use Rattle.formula.specs.Step.{writes, eq_z}
use Rattle.formula.specs.Truth.{action_at, Writes, Current}

pub decides_lt_z : (a b : ℤ) → Decides (lt_z a b) (a <ℤ b)
decides_lt_z a b = (λ h. grind (arith, ints), λ h. grind (arith, ints))

pub decides_eq_z : (a b : ℤ) → Decides (eq_z a b) (a ≡ b)
decides_eq_z a b = (λ h. grind (arith, ints), λ h. grind (arith, ints))

pub decides_writes : (run : List Action) (n x : ℕ) → Decides (writes (action_at run n) x) (Writes run n x)
decides_writes run n x = Decides-and (eqb (action_at run n).kind 2) (eqb (action_at run n).subject x) (Decides-eqb (action_at run n).kind 2) (Decides-eqb (action_at run n).subject x)

module _ (starts : List ℤ) (run : List Action) (x : ℕ) where
  unfoldable pub valued : ℕ → ℤ
  valued zero = get_or starts x (pos 0)
  valued (suc n) = cond (writes (action_at run (suc n)) x) (action_at run (suc n)).value (valued n)

  pub current : (n : ℕ) → Current starts run n x (valued n)
  unfolding valued
  current zero = inr (λ j l u. absurd (omega arith), refl)
  current (suc n) = go (writes (action_at run (suc n)) x) refl (current n)
    where
      go : (b : Bool) → writes (action_at run (suc n)) x ≡ b → Current starts run n x (valued n) → Current starts run (suc n) x (cond b (action_at run (suc n)).value (valued n))
      go true e ih = inl (suc n, omega arith, omega arith, (decides_writes run (suc n) x).0 e, refl, λ j l u. absurd (omega arith))
      go false e (inl q) =
          inl (
            q.0,
            q.1,
            omega (arith, q.2),
            q.3,
            q.4,
            λ j l u w.
                ⊎_elim (λ h. q.5 j l (omega arith) w)
                (λ h. let top : j ≡ suc n = omega arith in both_ways _ e ((decides_writes run (suc n) x).1 (subst (λ k. Writes run k x) top w)))
                (cases_lt j (suc n)),
          )
      go false e (inr q) =
          inr (
            λ j l u w.
                ⊎_elim (λ h. q.0 j l (omega arith) w)
                (λ h. let top : j ≡ suc n = omega arith in both_ways _ e ((decides_writes run (suc n) x).1 (subst (λ k. Writes run k x) top w)))
                (cases_lt j (suc n)),
            q.1,
          )

  pub current_one : (n : ℕ) (v : ℤ) → Current starts run n x v → v ≡ valued n
  unfolding valued
  current_one zero v (inl q) = absurd (omega (arith, q.1, q.2))
  current_one zero v (inr q) = sym q.1
  current_one (suc n) v cur = go (writes (action_at run (suc n)) x) refl (current_one n v) cur
    where
      go : (b : Bool) → writes (action_at run (suc n)) x ≡ b → (Current starts run n x v → v ≡ valued n) → Current starts run (suc n) x v
          → v ≡ cond b (action_at run (suc n)).value (valued n)
      go true e ih (inl q) =
          ⊎_elim (λ h. absurd (q.5 (suc n) h (omega arith) ((decides_writes run (suc n) x).0 e)))
          (λ h. let top : q.0 ≡ suc n = omega (arith, q.2) in sym q.4 ∙ ap (λ k. (action_at run k).value) top)
          (cases_lt q.0 (suc n))
      go true e ih (inr q) = absurd (q.0 (suc n) (omega arith) (omega arith) ((decides_writes run (suc n) x).0 e))
      go false e ih (inl q) =
          ⊎_elim (λ h. ih (inl (q.0, q.1, omega arith, q.3, q.4, λ j l u w. q.5 j l (omega arith) w)))
          (λ h. let top : q.0 ≡ suc n = omega (arith, q.2) in absurd (both_ways _ e ((decides_writes run (suc n) x).1 (subst (λ k. Writes run k x) top q.3))))
          (cases_lt q.0 (suc n))
      go false e ih (inr q) = ih (inr (λ j l u w. q.0 j l (omega arith) w, q.1))

  -- a test of the current value
  pub decides_value : (n : ℕ) (b : Bool) (P : ℤ → Type 0) → Decides b (P (valued n)) → Decides b ((v : ℤ) × Current starts run n x v × P v)
  decides_value n b P d = Decides-like b (λ p. (valued n, current n, p)) (λ q. subst P (current_one n q.0 q.1) q.2) d
