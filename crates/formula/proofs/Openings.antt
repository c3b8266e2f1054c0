-- The opening brackets of a text, as a chain of iterators gives them.
use Rattle.std.proofs.Common.{◌≡◌, ℕ, ◌+◌, Bool, true, false, eqb, get_or, List, [], ◌∷◌, map, Option, refl, ap, ◌∙◌}
use Rattle.std.specs.List.{filter, slice_get, enumerate_from}
use Rattle.std.specs.Option.{unwrap_or}
use Rattle.std.proofs.lemmas.Option.{unwrap_or-slice_get}
use Rattle.formula.specs.Reading.{openings, bracket_at}

abbrev pub opens : ℕ × ℕ → Bool
opens p = eqb p.1 40

abbrev pub place : ℕ × ℕ → ℕ
place p = p.0

openings_placed : (k : ℕ) (t : List ℕ) → map place (filter opens (enumerate_from k t)) ≡ openings k t
openings_placed k [] = refl
openings_placed k (b ∷ t) = go (openings_placed (k + 1) t) (eqb b 40) refl
  where
    go : map place (filter opens (enumerate_from (k + 1) t)) ≡ openings (k + 1) t → (h : Bool) → eqb b 40 ≡ h → map place (filter opens (enumerate_from k (b ∷ t))) ≡ openings k (b ∷ t)
    go later true e = rw e (ap (λ os. k ∷ os) later)
    go later false e = rw e later

pub bracket_nth : (t : List ℕ) (n : ℕ) (o : Option ℕ) → o ≡ slice_get (map place (filter opens (enumerate_from 0 t))) n → unwrap_or o 0 ≡ bracket_at t n
bracket_nth t n o e =
    ap (λ q. unwrap_or q 0) e
    ∙ unwrap_or-slice_get (map place (filter opens (enumerate_from 0 t))) n 0
    ∙ ap (λ os. get_or os n 0) (openings_placed 0 t)
