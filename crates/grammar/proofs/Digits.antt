-- A run of digits is passed as far as the machine takes it.
use Rattle.std.proofs.Common.{◌≡◌, ℕ, zero, suc, ◌+◌, ◌<◌, Bool, true, false, cond, List, [], ◌∷◌, length, get_or, take, drop, sym, refl, ap, ◌∙◌, arith}
use native.Mathlib.Decide.{dec_lt}
use Rattle.std.specs.Char.{is_ascii_digit}
use Rattle.std.specs.List.{take_while}
use Rattle.std.proofs.lemmas.List.Sums.{take_while-cons}
use Rattle.std.proofs.lemmas.Bool.Decides.{nat_tests}
use Rattle.std.proofs.lemmas.List.{drop_more, drop_all}
use Rattle.grammar.specs.Machine.{Has, any, more, Sym, n}
use Rattle.grammar.specs.Reading.{run_at, NoDigit}
use Rattle.grammar.proofs.Steps.{digit_here, digits_off}

is_digit : (b : ℕ) → is_ascii_digit b ≡ true → Has any b
is_digit b e = grind (arith, nat_tests)

no_digit : (b : ℕ) → is_ascii_digit b ≡ false → Has any b → ⊥
no_digit b e h = grind (arith, nat_tests)

-- how many digits stand at i, of k that may
abbrev pub standing : ℕ → ℕ → List ℕ → ℕ
standing k i w = length (take_while is_ascii_digit (take k (drop i w)))

standing_more : (k i : ℕ) (w : List ℕ) (v : Bool) → i < length w → is_ascii_digit (get_or w i 0) ≡ v → standing (suc k) i w ≡ cond v (1 + standing k (i + 1) w) 0
standing_more k i w v l e =
    ap (λ (u : List ℕ). length (take_while is_ascii_digit (take (suc k) u))) (drop_more w i 0 l)
    ∙ ap length (take_while-cons is_ascii_digit (get_or w i 0) (take k (drop (i + 1) w)) ∙ ap (λ (x : Bool). cond x (get_or w i 0 ∷ take_while is_ascii_digit (take k (drop (i + 1) w))) []) e)
    ∙ by v
  where
    by : (v : Bool) → length (cond v (get_or w i 0 ∷ take_while is_ascii_digit (take k (drop (i + 1) w))) []) ≡ cond v (1 + standing k (i + 1) w) 0
    by true = omega arith
    by false = refl

pub digits_passed : (k : ℕ) (s : List Sym) (i : ℕ) (w : List ℕ) → NoDigit s → run_at ((n (more k) ∷ s) ∷ []) i w ≡ run_at (s ∷ []) (i + standing k i w) w
digits_passed zero s i w nd =
    digits_off zero s i w (λ l p h. absurd (omega arith)) ∙ (let e : i ≡ i + 0 = omega arith in ap (λ (j : ℕ). run_at (s ∷ []) j w) e)
digits_passed (suc k) s i w nd =
    elim (dec_lt i (length w)) [
      | yes l ↦ here l (digits_passed k s (i + 1) w nd) (is_ascii_digit (get_or w i 0)) refl
      | no l ↦ digits_off (suc k) s i w (λ h p d. absurd (l h))
          ∙ ap (λ (j : ℕ). run_at (s ∷ []) j w) (let z = drop_all i w (omega arith) in let e : i ≡ i + 0 = omega arith in e ∙ ap (λ (u : List ℕ). i + length (take_while is_ascii_digit (take (suc k) u))) (sym z))
    ]
  where
    here : i < length w → run_at ((n (more k) ∷ s) ∷ []) (i + 1) w ≡ run_at (s ∷ []) (i + 1 + standing k (i + 1) w) w → (v : Bool) → is_ascii_digit (get_or w i 0) ≡ v
        → run_at ((n (more (suc k)) ∷ s) ∷ []) i w ≡ run_at (s ∷ []) (i + standing (suc k) i w) w
    here l rest true e =
        let seen : standing (suc k) i w ≡ 1 + standing k (i + 1) w = standing_more k i w true l e in
        let place : i + 1 + standing k (i + 1) w ≡ i + standing (suc k) i w = omega arith in
        digit_here k s i w nd l (is_digit (get_or w i 0) e) ∙ rest ∙ ap (λ (j : ℕ). run_at (s ∷ []) j w) place
    here l rest false e =
        let seen : standing (suc k) i w ≡ 0 = standing_more k i w false l e in
        let place : i ≡ i + standing (suc k) i w = omega arith in
        digits_off (suc k) s i w (λ h p d. no_digit (get_or w i 0) e d) ∙ ap (λ (j : ℕ). run_at (s ∷ []) j w) place
