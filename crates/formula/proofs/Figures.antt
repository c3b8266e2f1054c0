-- Numbers where they stand in a text.
use Rattle.std.proofs.Common.{◌≡◌, ℕ, suc, ◌+◌, ◌^◌, ◌<◌, true, false, cond, List, [], ◌∷◌, ◌++◌, length, take, drop, ℤ, pos, negsuc, decimal, sym, refl, ap, ◌∙◌, arith}
use Rattle.std.specs.Str.Parse.{AllDigits}
use Rattle.std.specs.Int.{IsInRange}
use Rattle.std.specs.Fmt.{signed_decimal}
use Rattle.std.proofs.lemmas.Fmt.{decimal_is_IsNumeral}
use Rattle.std.proofs.lemmas.List.{drop_at, drop-drop, take_at}
use Rattle.std.proofs.lemmas.Str.Parse.{digit_from_value}
use Rattle.std.proofs.lemmas.Bool.{and_from}
use Rattle.std.proofs.lemmas.Bool.Decides.{nat_tests}
use Rattle.grammar.specs.Recording.{Piece, opening, closing, blank, newline, word, small, wide, TenDigits, bytes}
use Rattle.text.specs.Ranges.{Short}
use Rattle.formula.specs.Reading.{IsNumber, digit, begins_digit, begins_minus, digits, number_width}
use Rattle.formula.proofs.Bytes.{all_digit, digits-run}

in_digit : (c : ℕ) → IsInRange 48 57 c → digit c ≡ true
in_digit c i = grind (arith, nat_tests)

from_digits : (ds : List ℕ) → AllDigits 10 ds → all_digit ds ≡ true
from_digits [] h = refl
from_digits (d ∷ ds) h = and_from (digit d) (all_digit ds) (in_digit d (digit_from_value d h.0)) (from_digits ds h.1)

-- the digits of a number, of which there are some
pub decimal-digits : (n : ℕ) → n < 2 ^ 64 → all_digit (decimal n) ≡ true
decimal-digits n h = from_digits (decimal n) (decimal_is_IsNumeral n h).0.1

pub decimal_length : (n : ℕ) → n < 2 ^ 64 → 0 < length (decimal n)
decimal_length n h = (decimal_is_IsNumeral n h).0.0

-- the width of a number is how many bytes it takes
pub small_width : (n : ℕ) (rest : List ℕ) → n < 10 ^ 10 → begins_digit rest ≡ false → digits (decimal n ++ rest) ≡ length (decimal n)
small_width n rest h stop = digits-run (decimal n) rest (decimal-digits n (omega arith)) stop

-- a list of digits does not begin with a minus
no_minus : (ds rest : List ℕ) → 0 < length ds → all_digit ds ≡ true → begins_minus (ds ++ rest) ≡ false
no_minus [] rest some all = absurd (omega arith)
no_minus (d ∷ ds) rest some all = grind (arith, nat_tests)

plain_width : (bs : List ℕ) → begins_minus bs ≡ false → number_width bs ≡ digits bs
plain_width bs none = ap (λ b. cond b (suc (digits (drop 1 bs))) (digits bs)) none

pub wide_width : (z : ℤ) (rest : List ℕ) → TenDigits z → begins_digit rest ≡ false → number_width (signed_decimal z ++ rest) ≡ length (signed_decimal z)
wide_width (pos n) rest h stop =
    plain_width (decimal n ++ rest) (no_minus (decimal n) rest (decimal_length n (omega arith)) (decimal-digits n (omega arith))) ∙ small_width n rest h stop
wide_width (negsuc n) rest h stop = ap suc (digits-run (decimal (suc n)) rest (decimal-digits (suc n) (omega arith)) stop)

-- what stands behind a part of the text that begins at k
pub part_passed : (t : List ℕ) (k : ℕ) (part rest : List ℕ) → drop k t ≡ part ++ rest → drop (k + length part) t ≡ rest
part_passed t k part rest e = sym (drop-drop (length part) k t) ∙ ap (drop (length part)) e ∙ drop_at part rest (length part) refl

-- the bytes of the number where it stands
wide_part : (t : List ℕ) (k : ℕ) (z : ℤ) (rest : List ℕ) → TenDigits z → begins_digit rest ≡ false → drop k t ≡ signed_decimal z ++ rest
    → take (number_width (drop k t)) (drop k t) ≡ signed_decimal z
wide_part t k z rest h stop e =
    ap (λ bs. take (number_width bs) bs) e ∙ ap (λ w. take w (signed_decimal z ++ rest)) (wide_width z rest h stop) ∙ take_at (signed_decimal z) rest (length (signed_decimal z)) refl

pub number_part : (t : List ℕ) (k : ℕ) (p : Piece) (rest : List ℕ) → IsNumber p → Short p → begins_digit rest ≡ false → drop k t ≡ bytes p ++ rest
    → take (number_width (drop k t)) (drop k t) ≡ bytes p
number_part t k opening rest i h stop e = absurd i
number_part t k closing rest i h stop e = absurd i
number_part t k blank rest i h stop e = absurd i
number_part t k newline rest i h stop e = absurd i
number_part t k (word w) rest i h stop e = absurd i
number_part t k (small n) rest i h stop e = wide_part t k (pos n) rest h stop e
number_part t k (wide z) rest i h stop e = wide_part t k z rest h stop e
