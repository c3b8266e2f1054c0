-- One turn of the pass over the arcs: the bits that an arc sets.
use Rattle.std.proofs.Common.{◌≡◌, ℕ, ◌+◌, ◌<◌, Bool, true, false, ◌&&◌, ◌||◌, eqb, List, length, get_or, take, sym, ap, ◌∙◌}
use mathlib.Core.Bool.{or-false}
use lib.Bits.{bit_or}
use Rattle.codes.specs.Codes.{bit_of, only_bit}
use Rattle.codes.proofs.Bitwise.{bit_or_lem, bit_only}
use Rattle.automaton.specs.declared.arc.Arc.{Arc}
use Rattle.std.specs.List.{list_any}
use Rattle.std.proofs.lemmas.List.Folds.{list_any_more}

-- the code has exactly the bits that `at` gives of the arcs that pass
abbrev pub Marks : (Arc → Bool) → (Arc → ℕ) → List Arc → ℕ → Type 0
Marks passes at arcs c = (s : ℕ) → s < 64 → bit_of c s ≡ list_any (λ arc. passes arc && eqb s (at arc)) arcs

pub marks_yes : (passes : Arc → Bool) (at : Arc → ℕ) (arcs : List Arc) (i : ℕ) (d : Arc) (c : ℕ) → i < length arcs
    → passes (get_or arcs i d) ≡ true → Marks passes at (take i arcs) c
    → Marks passes at (take (i + 1) arcs) (bit_or c (only_bit (at (get_or arcs i d))))
marks_yes passes at arcs i d c h passing old s l =
    let x = get_or arcs i d in
    bit_or_lem c (only_bit (at x)) s
    ∙ ap (λ b. b || bit_of (only_bit (at x)) s) (old s l)
    ∙ ap (λ b. list_any (λ arc. passes arc && eqb s (at arc)) (take i arcs) || b) (bit_only (at x) s l)
    ∙ ap (λ b. list_any (λ arc. passes arc && eqb s (at arc)) (take i arcs) || (b && eqb s (at x))) (sym passing)
    ∙ sym (list_any_more (λ arc. passes arc && eqb s (at arc)) arcs i d h)

pub marks_no : (passes : Arc → Bool) (at : Arc → ℕ) (arcs : List Arc) (i : ℕ) (d : Arc) (c : ℕ) → i < length arcs
    → passes (get_or arcs i d) ≡ false → Marks passes at (take i arcs) c
    → Marks passes at (take (i + 1) arcs) c
marks_no passes at arcs i d c h failing old s l =
    let x = get_or arcs i d in
    old s l
    ∙ sym (or-false _)
    ∙ ap (λ b. list_any (λ arc. passes arc && eqb s (at arc)) (take i arcs) || (b && eqb s (at x))) (sym failing)
    ∙ sym (list_any_more (λ arc. passes arc && eqb s (at arc)) arcs i d h)
