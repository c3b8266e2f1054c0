-- Where words and numbers end: no blank, bracket or newline stands in them.
use Rattle.std.proofs.Common.{◌≡◌, ℕ, zero, suc, ◌^◌, ◌<◌, ◌≤◌, Bool, true, false, cond, ◌&&◌, eqb, ltb, List, [], ◌∷◌, ◌++◌, length, ℤ, pos, negsuc, decimal, sym, refl, ap, ◌∙◌, subst, inl, inr, arith}
use lib.Signed.{mag}
use Rattle.std.specs.Fmt.{signed_decimal}
use Rattle.std.proofs.lemmas.Bool.Decides.{nat_tests}
use Rattle.std.proofs.lemmas.Fmt.{decimal_injective, signed_decimal_injective}
use Rattle.grammar.specs.Recording.{TenDigits}
use Rattle.grammar.specs.Spelling.{Digits, Positive, Num, Int}
use Rattle.grammar.proofs.Decimal.{decimal_num, signed_int}

-- no byte is a blank, a bracket or a newline
abbrev pub Solid : List ℕ → Type 0
Solid [] = Unit {0}
Solid (b ∷ bs) = (41 < b) × Solid bs

-- so its end is where the first of them stands
pub split_off : (x y a b : List ℕ) (c d : ℕ) → Solid x → Solid y → c ≤ 41 → d ≤ 41 → x ++ (c ∷ a) ≡ y ++ (d ∷ b) → (x ≡ y) × (c ≡ d) × (a ≡ b)
split_off [] [] a b c d hx hy hc hd e = (refl, cc, cc)
split_off [] (y ∷ ys) a b c d hx (h, hy) hc hd e = let z : c ≡ y = cc in absurd (omega arith)
split_off (x ∷ xs) [] a b c d (h, hx) hy hc hd e = let z : x ≡ d = cc in absurd (omega arith)
split_off (x ∷ xs) (y ∷ ys) a b c d (h, hx) (k, hy) hc hd e =
    let p : x ≡ y = cc in
    let r = split_off xs ys a b c d hx hy hc hd cc in
    (ap (λ (z : ℕ). z ∷ xs) p ∙ ap (λ (z : List ℕ). y ∷ z) r.0, r.1, r.2)

-- numbers
pub solid_digits : (k : ℕ) (ds : List ℕ) → Digits k ds → Solid ds
solid_digits k [] h = tt
solid_digits zero (d ∷ ds) h = absurd h
solid_digits (suc k) (d ∷ ds) (h, hs) = (omega arith, solid_digits k ds hs)

abbrev pub Some : List ℕ → Type 0
Some w = 0 < length w

pub solid_positive : (w : List ℕ) → Positive w → Solid w × Some w
solid_positive [] h = absurd h
solid_positive (d ∷ ds) (h, hs) = ((omega arith, solid_digits 9 ds hs), omega arith)

pub solid_num : (w : List ℕ) → Num w → Solid w × Some w
solid_num [] (inl e) = let z : ◌≡◌ {A = ℕ} 0 1 = cc in absurd (omega arith)
solid_num (d ∷ ds) (inl e) = let p : d ≡ 48 = cc in let q : ds ≡ [] = cc in ((omega arith, nil ds q), omega arith)
  where
    nil : (ds : List ℕ) → ds ≡ [] → Solid ds
    nil [] e = tt
    nil (x ∷ xs) e = let z : ◌≡◌ {A = ℕ} 0 1 = cc in absurd (omega arith)
solid_num w (inr h) = solid_positive w h

pub solid_int : (w : List ℕ) → Int w → Solid w × Some w
solid_int w (inl h) = solid_num w h
solid_int [] (inr (ds, e, h)) = let z : ◌≡◌ {A = ℕ} 0 1 = cc in absurd (omega arith)
solid_int (d ∷ es) (inr (ds, e, h)) = let p : d ≡ 45 = cc in let q : ds ≡ es = cc in ((omega arith, (solid_positive es (subst Positive q h)).0), omega arith)

pub number_then : (m n c d : ℕ) (a b : List ℕ) → m < 10 ^ 10 → n < 10 ^ 10 → c ≤ 41 → d ≤ 41 → decimal m ++ (c ∷ a) ≡ decimal n ++ (d ∷ b) → (m ≡ n) × (c ≡ d) × (a ≡ b)
number_then m n c d a b hm hn hc hd e =
    let r = split_off (decimal m) (decimal n) a b c d (solid_num (decimal m) (decimal_num m hm)).0 (solid_num (decimal n) (decimal_num n hn)).0 hc hd e in
    (decimal_injective m n (omega arith) (omega arith) r.0, r.1, r.2)

pub small_mag : (z : ℤ) → TenDigits z → mag z < 2 ^ 63
small_mag (pos n) h = omega arith
small_mag (negsuc n) h = omega arith

pub integer_then : (y z : ℤ) (c d : ℕ) (a b : List ℕ) → TenDigits y → TenDigits z → c ≤ 41 → d ≤ 41 → signed_decimal y ++ (c ∷ a) ≡ signed_decimal z ++ (d ∷ b) → (y ≡ z) × (c ≡ d) × (a ≡ b)
integer_then y z c d a b hy hz hc hd e =
    let r = split_off (signed_decimal y) (signed_decimal z) a b c d (solid_int (signed_decimal y) (signed_int y hy)).0 (solid_int (signed_decimal z) (signed_int z hz)).0 hc hd e in
    (signed_decimal_injective y z (small_mag y hy) (small_mag z hz) r.0, r.1, r.2)

-- the place of a word in a list
abbrev pub alike : List ℕ → List ℕ → Bool
alike [] [] = true
alike [] (y ∷ ys) = false
alike (x ∷ xs) [] = false
alike (x ∷ xs) (y ∷ ys) = eqb x y && alike xs ys

abbrev pub find : List ℕ → List (List ℕ) → ℕ
find w [] = 0
find w (v ∷ vs) = cond (alike w v) 0 (suc (find w vs))

abbrev pub above : List ℕ → Bool
above [] = true
above (b ∷ bs) = ltb 41 b && above bs

pub solid_of : (w : List ℕ) → above w ≡ true → Solid w
solid_of [] h = tt
solid_of (b ∷ bs) h = (grind (arith, nat_tests), solid_of bs (grind (arith, nat_tests)))

-- a text that begins with a blank, a bracket or a newline
pub record Parted (w : List ℕ) : Type 0 where
  pub first : ℕ
  pub behind : List ℕ
  pub low : first ≤ 41
  pub is : w ≡ first ∷ behind

-- a number, an integer, with such texts behind
pub number_parts : (m n : ℕ) (a b : List ℕ) → m < 10 ^ 10 → n < 10 ^ 10 → Parted a → Parted b → decimal m ++ a ≡ decimal n ++ b → (m ≡ n) × (a ≡ b)
number_parts m n a b hm hn pa pb e =
    let r = number_then m n pa.first pb.first pa.behind pb.behind hm hn pa.low pb.low
    (ap (λ (x : List ℕ). decimal m ++ x) (sym pa.is) ∙ e ∙ ap (λ (x : List ℕ). decimal n ++ x) pb.is) in
    (r.0, pa.is ∙ ap (λ (x : ℕ). x ∷ pa.behind) r.1 ∙ ap (λ (x : List ℕ). pb.first ∷ x) r.2 ∙ sym pb.is)

pub integer_parts : (y z : ℤ) (a b : List ℕ) → TenDigits y → TenDigits z → Parted a → Parted b → signed_decimal y ++ a ≡ signed_decimal z ++ b → (y ≡ z) × (a ≡ b)
integer_parts y z a b hy hz pa pb e =
    let r = integer_then y z pa.first pb.first pa.behind pb.behind hy hz pa.low pb.low
    (ap (λ (x : List ℕ). signed_decimal y ++ x) (sym pa.is) ∙ e ∙ ap (λ (x : List ℕ). signed_decimal z ++ x) pb.is) in
    (r.0, pa.is ∙ ap (λ (x : ℕ). x ∷ pa.behind) r.1 ∙ ap (λ (x : List ℕ). pb.first ∷ x) r.2 ∙ sym pb.is)

-- a bracket is not where an integer begins
pub no_integer : {A : Type 0} (z : ℤ) (a b : List ℕ) → TenDigits z → Parted b → 41 ∷ a ≡ signed_decimal z ++ b → A
no_integer z a b hz pb e =
    let h = solid_int (signed_decimal z) (signed_int z hz) in
    let r = split_off [] (signed_decimal z) a pb.behind 41 pb.first tt h.0 (omega arith) pb.low (e ∙ ap (λ (x : List ℕ). signed_decimal z ++ x) pb.is) in
    absurd (omega (arith, h.1, ap length r.0))
