-- The bits of what `&`, `|` and `^` give, of one bit alone, and of a part of a code.
use Rattle.std.proofs.Common.{◌≡◌, ℕ, zero, suc, ◌+◌, ◌/◌, ◌%◌, ◌^◌, ◌<◌, ◌≤◌, Bool, true, false, cond, max, min, not, ◌&&◌, ◌||◌, eqb, ltb, ◌⊎◌, sym, refl, ap, ◌∙◌, inl, inr, arith}
use Rattle.std.specs.Int.{bit_at}
use Rattle.std.proofs.lemmas.Nat.Bits.{bit_at_and, bit_at_or, bit_at_xor, bit_at-zero, bit_at-lt, bit_at-pow_same, bit_at-pow_other}
use lib.Bits.{bit_and, bit_or, bit_xor}
use Rattle.std.proofs.lemmas.Nat.{mod_below, div-add-mod', pow_pos}
use Rattle.std.proofs.lemmas.Bool.{cases_lt, cases_eq, eq-eqb, ne_eqb, lt-ltb, le-ltb, cond-true}
use Rattle.codes.specs.Codes.{bit_of, only_bit}
use Rattle.codes.proofs.Codes.{code_ext, code_bits, bit_low, bit_over}

-- two binary digits, by an operation that agrees with a connective on 0 and 1
digits : (f : ℕ → ℕ → ℕ) (g : Bool → Bool → Bool)
    → eqb (f 0 0) 1 ≡ g false false → eqb (f 0 1) 1 ≡ g false true → eqb (f 1 0) 1 ≡ g true false → eqb (f 1 1) 1 ≡ g true true
    → (x y : ℕ) → x < 2 → y < 2 → eqb (f x y) 1 ≡ g (eqb x 1) (eqb y 1)
digits f g a b c d zero zero h k = a
digits f g a b c d zero (suc zero) h k = b
digits f g a b c d (suc zero) zero h k = c
digits f g a b c d (suc zero) (suc zero) h k = d
digits f g a b c d (suc (suc x)) y h k = absurd (omega arith)
digits f g a b c d zero (suc (suc y)) h k = absurd (omega arith)
digits f g a b c d (suc zero) (suc (suc y)) h k = absurd (omega arith)

-- either but not both
abbrev pub differs : Bool → Bool → Bool
differs a b = cond a (not b) b

pub bit_or_lem : (a b s : ℕ) → bit_of (bit_or a b) s ≡ (bit_of a s || bit_of b s)
unfolding bit_of
bit_or_lem a b s = ap (λ n. eqb n 1) (bit_at_or a b s) ∙ digits max ◌||◌ refl refl refl refl _ _ (bit_at-lt a s) (bit_at-lt b s)

pub bit_and_lem : (a b s : ℕ) → bit_of (bit_and a b) s ≡ (bit_of a s && bit_of b s)
unfolding bit_of
bit_and_lem a b s = ap (λ n. eqb n 1) (bit_at_and a b s) ∙ digits min ◌&&◌ refl refl refl refl _ _ (bit_at-lt a s) (bit_at-lt b s)

pub bit_xor_lem : (a b s : ℕ) → bit_of (bit_xor a b) s ≡ differs (bit_of a s) (bit_of b s)
unfolding bit_of
bit_xor_lem a b s =
    ap (λ n. eqb n 1) (bit_at_xor a b s) ∙ digits (λ x y. (x + y) % 2) differs refl refl refl refl _ _ (bit_at-lt a s) (bit_at-lt b s)

pub bit_zero : (s : ℕ) → bit_of 0 s ≡ false
unfolding bit_of
bit_zero s = ap (λ n. eqb n 1) (bit_at-zero s)

pub bit_only : (t s : ℕ) → s < 64 → bit_of (only_bit t) s ≡ eqb s t
unfolding bit_of only_bit
bit_only t s h = go (cases_lt t 64) (cases_eq s t)
  where
    go : (t < 64) ⊎ (64 ≤ t) → (s ≡ t) ⊎ (s ≡ t → ⊥) → bit_of (cond (ltb t 64) (2 ^ t) 0) s ≡ eqb s t
    go (inl l) (inl e) =
        let low : ltb t 64 ≡ true = lt-ltb t 64 l in
        rw low (ap (λ k. eqb (bit_at (2 ^ t) k) 1) e ∙ ap (λ n. eqb n 1) (bit_at-pow_same t) ∙ sym (eq-eqb s t e))
    go (inl l) (inr ne) =
        let low : ltb t 64 ≡ true = lt-ltb t 64 l in
        rw low (ap (λ n. eqb n 1) (bit_at-pow_other t s ne) ∙ sym (ne_eqb s t ne))
    go (inr l) e =
        let over : ltb t 64 ≡ false = le-ltb t 64 l in
        let other : eqb s t ≡ false = ne_eqb s t (λ e. omega arith) in
        rw (over, other) (bit_zero s)

-- the bits below n, the others cleared
pub bit_part : (n c s : ℕ) → bit_of (c % 2 ^ n) s ≡ (ltb s n && bit_of c s)
bit_part n c s = go (cases_lt s n)
  where
    small : c % 2 ^ n < 2 ^ n
    small = mod_below c (2 ^ n) (pow_pos n)

    go : (s < n) ⊎ (n ≤ s) → bit_of (c % 2 ^ n) s ≡ (ltb s n && bit_of c s)
    go (inl l) =
        let low : ltb s n ≡ true = lt-ltb s n l in
        rw low (sym (bit_low (c / 2 ^ n) n (c % 2 ^ n) s l) ∙ ap (λ x. bit_of x s) (div-add-mod' c (2 ^ n)))
    go (inr l) =
        let over : ltb s n ≡ false = le-ltb s n l in
        rw over (bit_over n (c % 2 ^ n) s small l)

-- two codes with the same bits are one
pub same_bits : (n a b : ℕ) → a < 2 ^ n → b < 2 ^ n → ((s : ℕ) → s < n → bit_of a s ≡ bit_of b s) → a ≡ b
same_bits n a b h k same = code_bits n a h ∙ code_ext n (bit_of a) (bit_of b) same ∙ sym (code_bits n b k)

pub only_pow : (s : ℕ) → s < 64 → only_bit s ≡ 2 ^ s
unfolding only_bit
only_pow s h = cond-true _ _ _ (lt-ltb s 64 h)
