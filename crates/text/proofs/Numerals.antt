-- What `parse` answers at the digits of a number.
use Rattle.std.proofs.Common.{◌≡◌, ℕ, suc, ◌^◌, ◌<◌, ◌≤◌, Bool, true, false, ltb, leb, List, length, get_or, drop, ℤ, pos, negsuc, neg_ℤ, Ok, Err, IsUtf8, decimal, Result, sym, refl, ap, ◌∙◌, subst, arith, w32}
use lib.Signed.{mag}
use Rattle.std.specs.Result.{OkIff}
use Rattle.std.specs.Str.Parse.{AllDigits, ParsesUnsigned, ParsesSigned, digits_value}
use Rattle.std.specs.Fmt.{signed_decimal}
use Rattle.std.proofs.lemmas.Fmt.{IsAscii-decimal, IsAscii-signed, decimal_is_IsNumeral}
use Rattle.std.proofs.lemmas.Str.Parse.{IsNumeralModel, numerals_by_value, parse_digits, parse_signed_digits, parse_signed_minus, tells_digits}
use Rattle.std.proofs.lemmas.Str.{IsUtf8-from_ascii}
use Rattle.std.proofs.lemmas.Bool.Decides.{nat_tests}
use Rattle.grammar.specs.Recording.{TenDigits}
use Rattle.text.specs.declared.place.Place.{Place}
use Rattle.text.specs.declared.fault.TextFault.{TextFault}
use Rattle.text.specs.Ranges.{ParsedAt, if_fits, small_number, told_at, wide_number}

own : IsNumeralModel (AllDigits 10) (digits_value 10)
own = numerals_by_value (AllDigits 10) tells_digits

pub small_range : (n : ℕ) → n < 10 ^ 10 → n < 2 ^ 64
small_range n h = omega arith

pub wide_range : (z : ℤ) → TenDigits z → mag z < 2 ^ 63
wide_range (pos n) h = omega arith
wide_range (negsuc n) h = omega arith

pub small_utf8 : (n : ℕ) (bs : List ℕ) → n < 10 ^ 10 → bs ≡ decimal n → IsUtf8 bs
small_utf8 n bs h e = rw e (IsUtf8-from_ascii (decimal n) (IsAscii-decimal n (small_range n h)))

pub wide_utf8 : (z : ℤ) (bs : List ℕ) → TenDigits z → bs ≡ signed_decimal z → IsUtf8 bs
wide_utf8 z bs h e = rw e (IsUtf8-from_ascii (signed_decimal z) (IsAscii-signed z (wide_range z h)))

-- where the test b decides P
by_test : {A E : Type 0} (r : Result A E) (P : Type 0) (b : Bool) (x : A) (p : Place) → OkIff r P x → (P → b ≡ true) → (b ≡ true → P) → told_at r p ≡ if_fits b x p
by_test (Ok v) P b x p h to from = ap Ok h.1 ∙ sym (ap (λ (t : Bool). if_fits t x p) (to h.0))
by_test (Err e) P true x p h to from = elim (h (from refl)) [ ]
by_test (Err e) P false x p h to from = refl

small_parsed : {E : Type 0} (n : ℕ) (bs : List ℕ) (r : Result ℕ E) (p : Place) → n < 10 ^ 10 → bs ≡ decimal n → ParsesUnsigned 8 10 bs r → told_at r p ≡ small_number n p
small_parsed n bs r p h e reads =
    let d = decimal_is_IsNumeral n (small_range n h) in
    let same : digits_value 10 bs ≡ n = ap (digits_value 10) e ∙ d.1 in
    let all : AllDigits 10 bs = rw e d.0.1 in
    let some : 0 < length bs = rw e d.0.0 in
    let c = parse_digits own 8 bs r reads all in
    by_test r ((0 < length bs) × (digits_value 10 bs < 2 ^ 8)) (leb n 255) n p (subst (λ (x : ℕ). OkIff r ((0 < length bs) × (digits_value 10 bs < 2 ^ 8)) x) same c)
    (λ h. let k = h.1 in grind (arith, nat_tests))
    (λ h. (some, grind (arith, nat_tests)))

wide_parsed : {E : Type 0} (z : ℤ) (bs : List ℕ) (r : Result ℤ E) (p : Place) → TenDigits z → bs ≡ signed_decimal z → ParsesSigned w32 10 bs r → told_at r p ≡ wide_number z p
wide_parsed (pos n) bs r p h e reads =
    let d = decimal_is_IsNumeral n (small_range n h) in
    let same : digits_value 10 bs ≡ n = ap (digits_value 10) e ∙ d.1 in
    let all : AllDigits 10 bs = rw e d.0.1 in
    let some : 0 < length bs = rw e d.0.0 in
    let c = parse_signed_digits own w32 bs r reads all in
    by_test r ((0 < length bs) × (digits_value 10 bs < 2 ^ 31)) (ltb n (2 ^ 31)) (pos n) p (subst (λ (x : ℕ). OkIff r ((0 < length bs) × (digits_value 10 bs < 2 ^ 31)) (pos x)) same c)
    (λ h. let k = h.1 in grind (arith, nat_tests))
    (λ h. (some, grind (arith, nat_tests)))
wide_parsed (negsuc n) bs r p h e reads =
    let d = decimal_is_IsNumeral (suc n) (omega arith) in
    let ds : List ℕ = drop 1 bs in
    let is : ds ≡ decimal (suc n) = ap (λ (x : List ℕ). drop 1 x) e in
    let same : digits_value 10 ds ≡ suc n = ap (digits_value 10) is ∙ d.1 in
    let all : AllDigits 10 ds = rw is d.0.1 in
    let some : 0 < length ds = rw is d.0.0 in
    let c = parse_signed_minus own w32 bs r reads (ap (λ (x : List ℕ). get_or x 0 0) e) in
    by_test r (AllDigits 10 ds × (0 < length ds) × (digits_value 10 ds ≤ 2 ^ 31)) (ltb n (2 ^ 31)) (negsuc n) p
    (subst (λ (x : ℕ). OkIff r (AllDigits 10 ds × (0 < length ds) × (digits_value 10 ds ≤ 2 ^ 31)) (neg_ℤ (pos x))) same c)
    (λ h. let k = h.2 in grind (arith, nat_tests))
    (λ h. (all, some, grind (arith, nat_tests)))

-- the same of what `number` answers
pub small_read : {E : Type 0} (bs : List ℕ) (p : Place) (r : Result ℕ TextFault) → (IsUtf8 bs → ParsedAt (ParsesUnsigned {E = E} 8 10) bs p r) → (n : ℕ) → n < 10 ^ 10 → bs ≡ decimal n → r ≡ small_number n p
small_read bs p r told n h e =
    let at = told (small_utf8 n bs h e) in
    at.2 ∙ small_parsed n bs at.0 p h e at.1

pub wide_read : {E : Type 0} (bs : List ℕ) (p : Place) (r : Result ℤ TextFault) → (IsUtf8 bs → ParsedAt (ParsesSigned {E = E} w32 10) bs p r) → (z : ℤ) → TenDigits z → bs ≡ signed_decimal z → r ≡ wide_number z p
wide_read bs p r told z h e =
    let at = told (wide_utf8 z bs h e) in
    at.2 ∙ wide_parsed z bs at.0 p h e at.1
