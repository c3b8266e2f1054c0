-- The tests of a step decide its rule.
use Rattle.std.proofs.Common.{◌≡◌, ℕ, ◌<◌, ◌≤◌, Bool, true, false, cond, ◌&&◌, eqb, List, Decides, sym, ◌∙◌, inl, inr}
use Rattle.std.specs.List.{list_any}
use Rattle.std.proofs.lemmas.Bool.{cases_eq, cases_Bool, eq-eqb, ne_eqb, eqb-true, and_parts, and_from, cond-true, cond-false}
use Rattle.std.proofs.lemmas.Bool.Decides.{Decides-and, Decides-at}
use Rattle.codes.specs.Codes.{bit_of, some}
use Rattle.codes.proofs.Codes.{bit_code, bit_above, some_decides}
use Rattle.events.specs.declared.event.Action.{Action}
use Rattle.automaton.specs.declared.arc.Arc.{Arc}
use Rattle.automaton.specs.Moves.{leaves, goes, stepped}
use Rattle.automaton.specs.Rule.{Moves, rests, along, stays, Reaches}
use Rattle.automaton.proofs.Lists.{any_sound, any_complete, any_none}

module _ (bad : ℕ) (arcs : List Arc) (a : Action) (p s : ℕ) where
  to : Arc → Bool
  to arc = leaves a p arc && eqb s arc.to

  goes_sound : goes bad arcs a p s ≡ true → Moves bad arcs a p s
  unfolding goes to
  goes_sound h =
      elim (cases_eq p bad) [
        | inl same ↦ rests same (eqb-true s p (sym (cond-true _ _ _ (eq-eqb p bad same)) ∙ h))
        | inr other ↦
            let rest : cond (list_any (leaves a p) arcs) (list_any to arcs) (eqb s p) ≡ true = sym (cond-false _ _ _ (ne_eqb p bad other)) ∙ h in
            elim (cases_Bool (list_any (leaves a p) arcs)) [
              | inl some-match ↦
                  let found = any_sound to arcs (sym (cond-true _ _ _ some-match) ∙ rest) in
                  let parts = and_parts _ _ found.2 in
                  let own = and_parts _ _ parts.0 in
                  along other found.0 found.1 (eqb-true _ _ own.0) own.1 (eqb-true _ _ parts.1)
              | inr none-match ↦
                  stays other
                  (λ arc o from matches. any_none (leaves a p) arcs arc none-match o (and_from _ _ (eq-eqb _ _ from) matches))
                  (eqb-true s p (sym (cond-false _ _ _ none-match) ∙ rest))
            ]
      ]

  goes_complete : Moves bad arcs a p s → goes bad arcs a p s ≡ true
  unfolding goes to
  goes_complete (rests same e) = cond-true _ _ _ (eq-eqb p bad same) ∙ eq-eqb s p e
  goes_complete (along other arc o from matches e) =
      let leaving : leaves a p arc ≡ true = and_from _ _ (eq-eqb _ _ from) matches in
      cond-false _ _ _ (ne_eqb p bad other)
      ∙ cond-true _ _ _ (any_complete (leaves a p) arcs arc o leaving)
      ∙ any_complete to arcs arc o (and_from _ _ leaving (eq-eqb s arc.to e))
  goes_complete (stays other none e) =
      let none-match : list_any (leaves a p) arcs ≡ false =
      elim (cases_Bool (list_any (leaves a p) arcs)) [
        | inl found-one ↦
            let found = any_sound (leaves a p) arcs found-one in
            let own = and_parts _ _ found.2 in
            absurd (none found.0 found.1 (eqb-true _ _ own.0) own.1)
        | inr none-leaves ↦ none-leaves
      ] in
      cond-false _ _ _ (ne_eqb p bad other) ∙ cond-false _ _ _ none-match ∙ eq-eqb s p e

  pub decides_goes : Decides (goes bad arcs a p s) (Moves bad arcs a p s)
  decides_goes = (goes_sound, goes_complete)

pub decides_some : (n bad : ℕ) (arcs : List Arc) (c : ℕ) (a : Action) (s : ℕ)
    → Decides (some n (λ p. bit_of c p && goes bad arcs a p s)) (Reaches n bad arcs c a s)
decides_some n bad arcs c a s =
    some_decides (λ p. bit_of c p && goes bad arcs a p s) (λ p. (bit_of c p ≡ true) × Moves bad arcs a p s)
    (λ p. Decides-and (bit_of c p) (goes bad arcs a p s) (λ h. h, λ h. h) (decides_goes bad arcs a p s)) n

pub decides_reaches : (n bad : ℕ) (arcs : List Arc) (c : ℕ) (a : Action) (s : ℕ) → s < n
    → Decides (bit_of (stepped n bad arcs c a) s) (Reaches n bad arcs c a s)
unfolding stepped
decides_reaches n bad arcs c a s h =
    Decides-at _ _ (bit_code n (λ t. some n (λ p. bit_of c p && goes bad arcs a p t)) s h) (decides_some n bad arcs c a s)

-- a step clears the bits of no state
pub stepped_over : (n bad : ℕ) (arcs : List Arc) (c : ℕ) (a : Action) (s : ℕ) → n ≤ s → bit_of (stepped n bad arcs c a) s ≡ false
unfolding stepped
stepped_over n bad arcs c a s h = bit_above n (λ t. some n (λ p. bit_of c p && goes bad arcs a p t)) s h
