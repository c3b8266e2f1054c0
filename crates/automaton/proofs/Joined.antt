-- One pass over the arcs gives the code after the action: what stays of the states, with what the arcs reach.
use Rattle.std.proofs.Common.{◌≡◌, ℕ, ◌%◌, ◌^◌, ◌<◌, ◌≤◌, Bool, true, false, ◌&&◌, ◌||◌, eqb, ltb, List, sym, refl, ap, ◌∙◌, subst, inl, inr, arith}
use lib.Bits.{bit_or, bit_xor}
use Rattle.std.proofs.lemmas.Nat.{mod_below, pow_pos}
use Rattle.std.specs.List.{Contains}
use Rattle.std.proofs.lemmas.Bool.{cases_eq, cases_Bool, eq-eqb, ne_eqb, eqb-true, eqb-false, lt-ltb, ltb-true, and_parts, and_from, or_cases, or_left, or_right, not-true, not_from_false, false≢true, both_ways}
use Rattle.std.proofs.lemmas.Bool.Decides.{same_from_decides}
use Rattle.codes.specs.Codes.{bit_of, some}
use Rattle.codes.proofs.Codes.{code_ext, code_bits}
use Rattle.codes.proofs.Bitwise.{differs, bit_or_lem, bit_xor_lem, bit_part}
use Rattle.events.specs.declared.event.Action.{Action}
use Rattle.automaton.specs.declared.arc.Arc.{Arc}
use Rattle.automaton.specs.Arcs.{matching}
use Rattle.automaton.specs.Moves.{leaving, goes, stepped}
use Rattle.automaton.specs.Rule.{Moves, rests, along, stays, Reaches}
use Rattle.automaton.proofs.Lists.{any_sound, any_complete}
use Rattle.automaton.proofs.Turns.{Marks}
use Rattle.automaton.proofs.Decided.{decides_some}

differs_true : (x y : Bool) → (y ≡ true → x ≡ true) → differs x y ≡ true → (x ≡ true) × (y ≡ false)
differs_true true true i h = absurd (false≢true h)
differs_true true false i h = (refl, refl)
differs_true false true i h = absurd (false≢true (i refl))
differs_true false false i h = absurd (false≢true h)

differs_from : (x y : Bool) → x ≡ true → y ≡ false → differs x y ≡ true
differs_from x y e f = rw (e, f)

module _ (n bad : ℕ) (arcs : List Arc) (c : ℕ) (a : Action) (few : n ≤ 64) (left reached : ℕ)
    (left_is : Marks (leaving bad (c % 2 ^ n) a) (λ arc. arc.from) arcs left)
    (reached-is : Marks (leaving bad (c % 2 ^ n) a) (λ arc. arc.to) arcs reached) where
  -- the states of the code
  abbrev here : ℕ
  here = c % 2 ^ n

  -- the arc takes a state of the code other than the bad one
  leaving_parts : (arc : Arc) → leaving bad here a arc ≡ true → (arc.from ≡ bad → ⊥) × (arc.from < n) × (bit_of c arc.from ≡ true) × (matching a arc ≡ true)
  leaving_parts arc h =
      let both = and_parts _ _ h in
      let rest = and_parts _ _ both.1 in
      let state = and_parts (ltb arc.from n) (bit_of c arc.from) (sym (bit_part n c arc.from) ∙ rest.0) in
      (eqb-false _ _ (not-true _ both.0), ltb-true _ _ state.0, state.1, rest.1)

  leaving_from : (arc : Arc) (p : ℕ) → arc.from ≡ p → (p ≡ bad → ⊥) → bit_of here p ≡ true → matching a arc ≡ true → leaving bad here a arc ≡ true
  leaving_from arc p e other in_code matches =
      and_from _ _ (not_from_false _ (ne_eqb _ _ (λ same. other (sym e ∙ same))))
      (and_from _ _ (ap (bit_of here) e ∙ in_code) matches)

  state_here : (p : ℕ) → p < n → bit_of c p ≡ true → bit_of here p ≡ true
  state_here p h e = bit_part n c p ∙ and_from _ _ (lt-ltb p n h) e

  module _ (s : ℕ) (h : s < n) where
    low : s < 64
    low = omega arith

    left_sound : bit_of left s ≡ true → (arc : Arc) × Contains arcs arc × ((leaving bad here a arc ≡ true) × (s ≡ arc.from))
    left_sound e =
        let found = any_sound (λ arc. leaving bad here a arc && eqb s arc.from) arcs (sym (left_is s low) ∙ e) in
        let both = and_parts _ _ found.2 in
        (found.0, found.1, (both.0, eqb-true _ _ both.1))

    left_here : bit_of left s ≡ true → bit_of here s ≡ true
    left_here e =
        let found = left_sound e in
        let parts = leaving_parts found.0 found.2.0 in
        ap (bit_of here) found.2.1 ∙ state_here found.0.from parts.1 parts.2

    joined_sound : (differs (bit_of here s) (bit_of left s) || bit_of reached s) ≡ true → Reaches n bad arcs c a s
    joined_sound e =
        elim (or_cases _ _ e) [
          | inl still ↦
              let both = differs_true (bit_of here s) (bit_of left s) left_here still in
              let state = and_parts (ltb s n) (bit_of c s) (sym (bit_part n c s) ∙ both.0) in (
                s,
                h,
                (
                  state.1,
                  elim (cases_eq s bad) [
                    | inl same ↦ rests same refl
                    | inr other ↦
                        stays other
                        (λ arc o from matches. both_ways (bit_of left s) both.1
                        (left_is s low ∙ any_complete (λ x. leaving bad here a x && eqb s x.from) arcs arc o
                        (and_from _ _ (leaving_from arc s from other both.0 matches) (eq-eqb _ _ (sym from)))))
                        refl
                  ],
                ),
              )
          | inr came ↦
              let found = any_sound (λ arc. leaving bad here a arc && eqb s arc.to) arcs (sym (reached-is s low) ∙ came) in
              let both = and_parts _ _ found.2 in
              let parts = leaving_parts found.0 both.0 in
              (found.0.from, parts.1, (parts.2, along parts.0 found.0 found.1 refl parts.3 (eqb-true _ _ both.1)))
        ]

    not_left : (bit_of left s ≡ true → ⊥) → bit_of left s ≡ false
    not_left never = elim (cases_Bool (bit_of left s)) [ inl e ↦ absurd (never e) | inr e ↦ e ]

    joined_complete : Reaches n bad arcs c a s → (differs (bit_of here s) (bit_of left s) || bit_of reached s) ≡ true
    joined_complete r = by r.0 r.1 r.2.0 r.2.1
      where
        by : (p : ℕ) → p < n → bit_of c p ≡ true → Moves bad arcs a p s → (differs (bit_of here s) (bit_of left s) || bit_of reached s) ≡ true
        by p l e (rests same is) =
            or_left _ _ (differs_from _ _ (ap (bit_of here) is ∙ state_here p l e)
            (not_left (λ gone. let found = left_sound gone in (leaving_parts found.0 found.2.0).0 (sym found.2.1 ∙ is ∙ same))))
        by p l e (along other arc o from matches is) =
            or_right _ _ (reached-is s low ∙ any_complete (λ x. leaving bad here a x && eqb s x.to) arcs arc o
            (and_from _ _ (leaving_from arc p from other (state_here p l e) matches) (eq-eqb _ _ is)))
        by p l e (stays other none is) =
            or_left _ _ (differs_from _ _ (ap (bit_of here) is ∙ state_here p l e)
            (not_left (λ gone. let found = left_sound gone in
            none found.0 found.1 (sym found.2.1 ∙ is) (leaving_parts found.0 found.2.0).3)))

    joined_bit : bit_of (bit_or (bit_xor here left) reached % 2 ^ n) s ≡ some n (λ p. bit_of c p && goes bad arcs a p s)
    joined_bit =
        bit_part n (bit_or (bit_xor here left) reached) s
        ∙ ap (λ b. b && bit_of (bit_or (bit_xor here left) reached) s) (lt-ltb s n h)
        ∙ bit_or_lem (bit_xor here left) reached s
        ∙ ap (λ b. b || bit_of reached s) (bit_xor_lem here left s)
        ∙ same_from_decides _ _ (joined_sound, joined_complete) (decides_some n bad arcs c a s)

  pub joined : bit_or (bit_xor (c % 2 ^ n) left) reached % 2 ^ n ≡ stepped n bad arcs c a
  unfolding stepped
  joined =
      code_bits n (bit_or (bit_xor here left) reached % 2 ^ n) (mod_below _ (2 ^ n) (pow_pos n))
      ∙ code_ext n _ _ (λ s h. joined_bit s h)

-- the same for a count, states and a result that are known by equations
pub joined_at : (n bad : ℕ) (arcs : List Arc) (c : ℕ) (a : Action) (few : n ≤ 64) (left reached count states r : ℕ)
    → count ≡ n → states ≡ c % 2 ^ count
    → Marks (leaving bad states a) (λ arc. arc.from) arcs left
    → Marks (leaving bad states a) (λ arc. arc.to) arcs reached
    → r ≡ bit_or (bit_xor states left) reached % 2 ^ count
    → r ≡ stepped n bad arcs c a
joined_at n bad arcs c a few left reached count states r same states-are left_is reached-is is =
    let at : states ≡ c % 2 ^ n = states-are ∙ ap (λ k. c % 2 ^ k) same in
    is
    ∙ ap (λ k. bit_or (bit_xor states left) reached % 2 ^ k) same
    ∙ ap (λ x. bit_or (bit_xor x left) reached % 2 ^ n) at
    ∙ joined n bad arcs c a few left reached
    (subst (λ x. Marks (leaving bad x a) (λ arc. arc.from) arcs left) at left_is)
    (subst (λ x. Marks (leaving bad x a) (λ arc. arc.to) arcs reached) at reached-is)
