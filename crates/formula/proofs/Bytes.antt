-- Steps through the bytes of a text.
use Rattle.std.proofs.Common.{◌≡◌, ℕ, suc, ◌+◌, Bool, true, false, cond, ◌&&◌, List, [], ◌∷◌, ◌++◌, length, refl, ap, ◌∙◌, arith}
use Rattle.std.proofs.lemmas.Bool.{and_parts}
use Rattle.std.specs.Char.{is_ascii_digit}
use Rattle.std.specs.List.{prefix_len}
use Rattle.formula.specs.Reading.{digit, begins_digit, digits}

pub digits-stop : (bs : List ℕ) → begins_digit bs ≡ false → digits bs ≡ 0
digits-stop [] d = refl
digits-stop (b ∷ bs) d = ap (λ x. cond x (suc (digits bs)) 0) d

-- the library counts the same
pub digits_prefix : (bs : List ℕ) → prefix_len is_ascii_digit bs ≡ digits bs
digits_prefix [] = refl
digits_prefix (b ∷ bs) =
    let more : 1 + prefix_len is_ascii_digit bs ≡ suc (digits bs) = omega (arith, digits_prefix bs) in
    ap (λ n. cond (digit b) n 0) more

-- every one is a digit
abbrev pub all_digit : List ℕ → Bool
all_digit [] = true
all_digit (b ∷ bs) = digit b && all_digit bs

pub digits-run : (ds rest : List ℕ) → all_digit ds ≡ true → begins_digit rest ≡ false → digits (ds ++ rest) ≡ length ds
digits-run [] rest all stop = digits-stop rest stop
digits-run (d ∷ ds) rest all stop =
    let p = and_parts (digit d) (all_digit ds) all in
    ap (λ x. cond x (suc (digits (ds ++ rest))) 0) p.0 ∙ ap suc (digits-run ds rest p.1 stop)
