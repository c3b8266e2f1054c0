-- What stands between two steps of an exploration.
use Rattle.std.specs.Prelude.{ℕ, ◌<◌, ◌≤◌, List, length}
use Rattle.explore.specs.System.{System, Steps}
use Rattle.explore.specs.Rows.{Row, At, Has, Before}
use Rattle.explore.specs.Listing.{Found}

-- The rows are rightly found, by steps ahead of label a at row i, and every step ahead of it leads to a listed node.
pub record Upto {N : Type 0} (S : System N) (rows : List (Row N)) (i a : ℕ) : Type 0 where
  pub some : 0 < length rows
  pub within : i ≤ length rows
  pub found : Found S rows
  pub past : (j : ℕ) (r : Row N) → 0 < j → At rows j r → Before r.from r.label i a
  pub closed : (j b : ℕ) (r : Row N) (m : N) → At rows j r → Before j b i a → Steps S r.node b m → Has rows m
