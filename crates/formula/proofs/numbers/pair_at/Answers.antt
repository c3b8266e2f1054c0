use Rattle.std.proofs.Common.{◌≡◌, ℕ, ◌+◌, ◌^◌, ◌<◌, false, List, ℤ, take, ◌∷◌, ◌++◌, length, drop, Ok, Err, decimal, Result, sym, refl, ap, ◌∙◌, to_z-of_z, w32, SFits, rules}
use Rattle.std.specs.Fmt.{signed_decimal}
use Rattle.std.proofs.lemmas.List.{drop-drop}
use Rattle.std.proofs.lemmas.Result.{err_from_is_err_and}
use Rattle.grammar.specs.Recording.{small}
use Rattle.text.specs.Places.{byte_place}
use Rattle.text.specs.Ranges.{wide_number}
use Rattle.text.specs.declared.fault.TextFault.{TextFault}
use Rattle.formula.specs.Reading.{paired, begins_digit, number_width}
use Rattle.formula.proofs.Figures.{number_part, part_passed}
use Rattle.formula.proofs.numbers.pair_at.Goals as goal

-- the constant behind the variable and a blank
constant_behind : (t : List ℕ) (k x : ℕ) (z : ℤ) (rest : List ℕ) → x < 10 ^ 10 → begins_digit rest ≡ false → drop k t ≡ decimal x ++ (32 ∷ (signed_decimal z ++ rest))
    → (part : List ℕ) → part ≡ take (number_width (drop k t)) (drop k t)
    → (r : Result ℤ TextFault) → (begins_digit rest ≡ false → drop (k + length part + 1) t ≡ signed_decimal z ++ rest → r ≡ wide_number z (byte_place t (k + length part + 1)))
    → r ≡ wide_number z (byte_place t (k + length (decimal x) + 1))
constant_behind t k x z rest hx stop e part is r reads =
    let behind = 32 ∷ (signed_decimal z ++ rest) in
    let same : part ≡ decimal x = is ∙ number_part t k (small x) behind tt hx refl e in
    let at : k + length part + 1 ≡ k + length (decimal x) + 1 = ap (λ bs. k + length bs + 1) same in
    let passed : drop (k + length (decimal x) + 1) t ≡ signed_decimal z ++ rest = sym (drop-drop 1 (k + length (decimal x)) t) ∙ ap (drop 1) (part_passed t k (decimal x) behind e) in
    reads stop (ap (λ n. drop n t) at ∙ passed) ∙ ap (λ n. wide_number z (byte_place t n)) at

pub returns-in_err-constant : goal.returns-in_err-constant
returns-in_err-constant c x z rest hx hz stop e =
    let t = c.args.text.now in
    let k = c.args.from in
    let behind = 32 ∷ (signed_decimal z ++ rest) in
    let first = sym (c.number_at.ensures x behind tt hx refl e) ∙ c.in_ok-variable.was in
    let second = constant_behind t k x z rest hx stop e c.digits_at.result.now c.digits_at.ensures c.number_at-2.result (λ h g. c.number_at-2.ensures z rest tt hz h g) in
    let p = err_from_is_err_and c.from_residual-in_err-constant.result c.from_residual-in_err-constant.ensures.1 in
    p.1 ∙ ap Err p.2 ∙ ap (paired (Ok c.in_ok-variable.variable)) (sym c.in_err-constant.was ∙ second) ∙ ap (λ r. paired r (wide_number z (byte_place t (k + length (decimal x) + 1)))) (sym first)

pub returns : goal.returns
returns c x z rest hx hz stop e =
    let t = c.args.text.now in
    let k = c.args.from in
    let behind = 32 ∷ (signed_decimal z ++ rest) in
    let first = sym (c.number_at.ensures x behind tt hx refl e) ∙ c.in_ok-variable.was in
    let second = constant_behind t k x z rest hx stop e c.digits_at.result.now c.digits_at.ensures c.number_at-2.result (λ h g. c.number_at-2.ensures z rest tt hz h g) in
    let fits : SFits w32 c.in_ok-constant.constant = search rules in
    ap (λ (v : ℤ). paired (Ok c.in_ok-variable.variable) (Ok v)) (to_z-of_z fits)
    ∙ ap (paired (Ok c.in_ok-variable.variable)) (sym c.in_ok-constant.was ∙ second)
    ∙ ap (λ r. paired r (wide_number z (byte_place t (k + length (decimal x) + 1)))) (sym first)
