-- A small system, as an example: two steps, each by 0 or 1. A node is the number of steps, times 16, and their sum.
use Rattle.std.specs.Prelude.{◌≡◌, ℕ, ◌+◌, cond, ◌&&◌, List, [], ◌∷◌, Some, None, Option, nat_lt}
use Rattle.explore.specs.System.{System}
use Rattle.explore.specs.Rows.{Row, row_of}
use Rattle.explore.specs.Listing.{Listing}
use Rattle.explore.specs.Paths.{path}

abbrev pub walk_next : ℕ → ℕ → Option ℕ
walk_next n a = cond (nat_lt n 32 && nat_lt a 2) (Some (n + 16 + a)) None

abbrev pub walk : System ℕ
walk = record { first = 0; labels = 2; next = walk_next }

-- its six nodes: two ways lead to 33, and the one by 0 and 1 is the lesser
abbrev pub walk_rows : List (Row ℕ)
walk_rows = row_of 0 0 255 ∷ row_of 16 0 0 ∷ row_of 17 0 1 ∷ row_of 32 1 0 ∷ row_of 33 1 1 ∷ row_of 34 2 1 ∷ []

-- these rows are its listing, and row 4 was found by the labels 0 and 1
pub record Walked : Type 0 where
  pub listing : Listing walk walk_rows
  pub way : path walk_rows 4 ≡ 0 ∷ 1 ∷ []
