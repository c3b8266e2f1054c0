-- The test of a row's key decides: it is true exactly where the row has the pair.
use Rattle.std.specs.Prelude.{◌≡◌, ℕ, true, List, Decides, refl}
use Rattle.std.proofs.Common.{subst}
use Rattle.std.proofs.lemmas.Slice.Eq.{compares_Decides}
use Rattle.order.specs.Reached.{same_counts}
use Rattle.pairs.specs.declared.pair.Pair.{Pair}
use Rattle.pairs.specs.Pairs.{same}
use Rattle.pairs.proofs.Levels.{told}
use Rattle.judge.specs.declared.row.SearchRow.{SearchRow}
use Rattle.judge.specs.Viewed.{is_pair}

-- comparing counts one by one decides whether they are the same
pub decides_counts : (xs ys : List ℕ) → Decides (same_counts xs ys) (xs ≡ ys)
decides_counts =
    compares_Decides same_counts
    record { empty = refl; shorter = λ y ys. refl; longer = λ x xs. refl; heads = λ x y xs ys. refl }

pub decides_pair : (x : Pair) (row : SearchRow) → Decides (is_pair x row) (row.pair ≡ x)
decides_pair x row = (told.equal row.pair x, λ e. subst (λ (z : Pair). same row.pair z ≡ true) e (told.self row.pair))
