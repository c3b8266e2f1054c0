-- A number's text is what is written of a number below 10 ^ 10, and so with a minus.
use Rattle.std.proofs.Common.{◌≡◌, ℕ, zero, suc, ◌+◌, ◌-◌, ◌*◌, ◌^◌, ◌<◌, ◌≤◌, true, List, [], ◌∷◌, length, get_or, ℤ, pos, negsuc, decimal, sym, refl, ap, ◌∙◌, inl, inr, arith, rules}
use Rattle.std.proofs.lemmas.Bool.Decides.{nat_tests}
use Rattle.std.specs.Str.{all_ascii_digits}
use Rattle.std.specs.Fmt.{signed_decimal}
use Rattle.std.proofs.lemmas.Str.Parse.{IsNumeralModel, numerals_by_fold, digits_value_short}
use Rattle.std.proofs.lemmas.Fmt.{decimal-digits_value, digits_decimal, length-decimal-le, first_decimal, decimal_digit, decimal_nonempty}
use Rattle.grammar.specs.Recording.{TenDigits}
use Rattle.grammar.specs.Spelling.{Digits, Positive, Num, Int}

abbrev read_on : ℕ → List ℕ → ℕ
read_on n [] = n
read_on n (c ∷ cs) = read_on (10 * n + (c - 48)) cs

own : IsNumeralModel (λ ds. all_ascii_digits ds ≡ true) (read_on 0)
own = numerals_by_fold _ (search rules) read_on (search rules)

digits_length : (k : ℕ) (ds : List ℕ) → Digits k ds → length ds ≤ k
digits_length k [] h = omega arith
digits_length zero (d ∷ ds) h = absurd h
digits_length (suc k) (d ∷ ds) (hd, h) = let l = digits_length k ds h in omega arith

digits_all : (k : ℕ) (ds : List ℕ) → Digits k ds → all_ascii_digits ds ≡ true
digits_all k [] h = refl
digits_all zero (d ∷ ds) h = absurd h
digits_all (suc k) (d ∷ ds) (hd, h) = let l = digits_all k ds h in grind (arith, nat_tests)

all_digits : (k : ℕ) (ds : List ℕ) → all_ascii_digits ds ≡ true → length ds ≤ k → Digits k ds
all_digits k [] h l = tt
all_digits zero (d ∷ ds) h l = absurd (omega arith)
all_digits (suc k) (d ∷ ds) h l = (grind (arith, nat_tests), all_digits k ds (grind (arith, nat_tests)) (omega arith))

positive_of : (w : List ℕ) → all_ascii_digits w ≡ true → 0 < length w → length w ≤ 10 → 48 < get_or w 0 0 → Positive w
positive_of [] h p l f = absurd (omega arith)
positive_of (d ∷ ds) h p l f = let x = all_digits 10 (d ∷ ds) h l in (omega arith, x.1)

decimal_positive : (n : ℕ) → suc n < 10 ^ 10 → Positive (decimal (suc n))
decimal_positive n h =
    positive_of (decimal (suc n)) (digits_decimal own (suc n) (omega arith)) (decimal_nonempty (suc n) (omega arith)) (length-decimal-le 10 (suc n) (omega arith) h (omega arith))
    (first_decimal (suc n) (omega arith) (omega arith))

positive_decimal : (w : List ℕ) → Positive w → (n : ℕ) × (n + 1 < 10 ^ 10) × (w ≡ decimal (suc n))
positive_decimal [] h = absurd h
positive_decimal (d ∷ ds) (hd, h) =
    let a : all_ascii_digits (d ∷ ds) ≡ true = digits_all 10 (d ∷ ds) (omega arith, h) in
    let l : length ds ≤ 9 = digits_length 9 ds h in
    let v = digits_value_short own (d ∷ ds) 10 a (omega arith) in
    above (read_on 0 (d ∷ ds)) v (sym (decimal-digits_value own (d ∷ ds) a (omega arith) (λ e. absurd (omega arith)) (omega arith)))
  where
    above : (n : ℕ) → n < 10 ^ 10 → d ∷ ds ≡ decimal n → (n : ℕ) × (n + 1 < 10 ^ 10) × (d ∷ ds ≡ decimal (suc n))
    above zero l e = let z : d ≡ 48 = cc (decimal_digit 0 (omega arith)) in absurd (omega arith)
    above (suc n) l e = (n, omega arith, e)

pub decimal_num : (n : ℕ) → n < 10 ^ 10 → Num (decimal n)
decimal_num zero h = inl (decimal_digit 0 (omega arith))
decimal_num (suc n) h = inr (decimal_positive n h)

pub num_decimal : (w : List ℕ) → Num w → (n : ℕ) × (n < 10 ^ 10) × (w ≡ decimal n)
num_decimal w (inl e) = (0, omega arith, e ∙ sym (decimal_digit 0 (omega arith)))
num_decimal w (inr h) = let r = positive_decimal w h in (suc r.0, omega (arith, r.1), r.2)

pub signed_int : (z : ℤ) → TenDigits z → Int (signed_decimal z)
signed_int (pos n) h = inl (decimal_num n h)
signed_int (negsuc n) h = inr (decimal (suc n), refl, decimal_positive n (omega arith))

pub int_signed : (w : List ℕ) → Int w → (z : ℤ) × TenDigits z × (w ≡ signed_decimal z)
int_signed w (inl h) = let r = num_decimal w h in (pos r.0, r.1, r.2)
int_signed w (inr (ds, e, h)) = let r = positive_decimal ds h in (negsuc r.0, r.1, e ∙ ap (λ (x : List ℕ). 45 ∷ x) r.2)
