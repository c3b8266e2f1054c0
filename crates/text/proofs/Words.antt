-- Words by their bytes.
use Rattle.std.proofs.Common.{◌≡◌, ℕ, ◌+◌, List, [], ◌∷◌, length, get_or, drop, ap, ◌∙◌, arith}
use Rattle.std.proofs.lemmas.List.{at_drop_more, drop_all}

-- the bytes of w from the k-th on are those
abbrev pub Bytes : List ℕ → List ℕ → ℕ → Type 0
Bytes [] w k = Unit {0}
Bytes (c ∷ cs) w k = (get_or w k 0 ≡ c) × Bytes cs w (k + 1)

pub spelled : (cs w : List ℕ) (k : ℕ) → length w ≡ k + length cs → Bytes cs w k → drop k w ≡ cs
spelled [] w k size is = drop_all k w (omega arith)
spelled (c ∷ cs) w k size is =
    let rest = spelled cs w (k + 1) (omega arith) is.1 in
    let first = is.0 in
    at_drop_more (λ (x : List ℕ). x) w k 0 (omega arith) ∙ ap (λ (a : ℕ). a ∷ drop (k + 1) w) first ∙ ap (λ (x : List ℕ). c ∷ x) rest
