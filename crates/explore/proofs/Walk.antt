-- The listing of the small system, by computation.
use Rattle.std.proofs.Common.{◌≡◌, ℕ, ◌+◌, ◌/◌, ◌%◌, ◌<◌, ◌≤◌, Bool, true, false, cond, ◌&&◌, eqb, ltb, leb, List, [], ◌∷◌, Some, None, refl, subst, arith}
use Rattle.std.proofs.lemmas.Bool.{ltb-true, leb-true, le-leb, eqb-true, eq-eqb, and_parts, and_from}
use Rattle.explore.specs.Rows.{Row}
use Rattle.explore.specs.Listing.{Listing}
use Rattle.explore.specs.Levels.{Levelled, Tells}
use Rattle.explore.specs.Paths.{path, back}
use Rattle.explore.specs.Rounds.{computed}
use Rattle.explore.specs.Walk.{walk, walk_next, walk_rows, Walked}
use Rattle.explore.proofs.Rounds.{exists}

abbrev good : ℕ → Bool
good n = leb (n % 16) (n / 16) && leb (n / 16) 2

next_is : (x y a : ℕ) → walk_next x a ≡ Some y → (x < 32) × (a < 2) × (y ≡ x + 16 + a)
next_is x y a e = go (ltb x 32 && ltb a 2) refl e
  where
    go : (b : Bool) → (ltb x 32 && ltb a 2) ≡ b → cond b (Some (x + 16 + a)) None ≡ Some y → (x < 32) × (a < 2) × (y ≡ x + 16 + a)
    go true t q = let p = and_parts (ltb x 32) (ltb a 2) t in (ltb-true x 32 p.0, ltb-true a 2 p.1, cc)
    go false t q = let z : ◌≡◌ {A = ℕ} 0 1 = cc in absurd (omega arith)

good_is : (n : ℕ) → good n ≡ true → (n % 16 ≤ n / 16) × (n / 16 ≤ 2)
good_is n h = let p = and_parts (leb (n % 16) (n / 16)) (leb (n / 16) 2) h in (leb-true (n % 16) (n / 16) p.0, leb-true (n / 16) 2 p.1)

is_good : (n : ℕ) → n % 16 ≤ n / 16 → n / 16 ≤ 2 → good n ≡ true
is_good n h k = and_from (leb (n % 16) (n / 16)) (leb (n / 16) 2) (le-leb (n % 16) (n / 16) h) (le-leb (n / 16) 2 k)

walk_levels : Levelled walk 2
walk_levels =
    record {
      level = λ n. n / 16;
      good = good;
      good_first = refl;
      good_next = λ x y a h e. let n = next_is x y a e.1 in let g = good_is x h in is_good y (omega arith) (omega arith);
      level_first = refl;
      level_next = λ x y a h e. let n = next_is x y a e.1 in let g = good_is x h in omega arith;
      level_top = λ x h. (good_is x h).1;
    }

numbers : Tells eqb
numbers = record { equal = eqb-true; self = λ x. eq-eqb x x refl }

rows_computed : computed walk eqb 2 ≡ walk_rows
rows_computed = refl

way_computed : path walk_rows 4 ≡ 0 ∷ 1 ∷ []
unfolding back
way_computed = refl

pub walked : Walked
walked = record { listing = subst (λ (rows : List (Row ℕ)). Listing walk rows) rows_computed (exists walk eqb 2 walk_levels numbers); way = way_computed }
