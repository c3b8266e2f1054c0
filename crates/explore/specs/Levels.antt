-- Systems in levels, where all paths to a node are equally long.
use Rattle.std.specs.Prelude.{◌≡◌, ℕ, ◌+◌, ◌<◌, ◌≤◌, Bool, true, ◌⊎◌, List, length, ◌≢◌}
use Rattle.explore.specs.System.{System, Steps, Goes}
use Rattle.explore.specs.Rows.{Row, row_at}
use Rattle.explore.specs.Paths.{path, Less}

-- Each step from a good node leads one level up, to a good node, and no good node is above level `top`. The first node is good, at level 0.
pub record Levelled {N : Type 0} (S : System N) (top : ℕ) : Type 0 where
  pub level : N → ℕ
  pub good : N → Bool
  pub good_first : good S.first ≡ true
  pub good_next : (x y : N) (a : ℕ) → good x ≡ true → Steps S x a y → good y ≡ true
  pub level_first : level S.first ≡ 0
  pub level_next : (x y : N) (a : ℕ) → good x ≡ true → Steps S x a y → level y ≡ level x + 1
  pub level_top : (x : N) → good x ≡ true → level x ≤ top

-- The test `same` tells whether two nodes are equal.
pub record Tells {N : Type 0} (same : N → N → Bool) : Type 0 where
  pub equal : (x y : N) → same x y ≡ true → x ≡ y
  pub self : (x : N) → same x x ≡ true

-- In levels: a row's path has as many labels as its node's level, leads to its node, and is the least of all that do; rows stand in the order
-- of their levels, and within a level of their paths as words; and the first row of its level that passes a test has the least path of all
-- that lead to such a node of that level.
pub record Ordered {N : Type 0} (S : System N) (level : N → ℕ) (rows : List (Row N)) : Type 0 where
  pub leads : (j : ℕ) → j < length rows → Goes S S.first (path rows j) (row_at S rows j).node
  pub depth : (j : ℕ) → j < length rows → length (path rows j) ≡ level (row_at S rows j).node
  pub least : (j : ℕ) (p : List ℕ) → j < length rows → Goes S S.first p (row_at S rows j).node → (path rows j ≡ p) ⊎ Less (path rows j) p
  pub levels : (j l : ℕ) → j < l → l < length rows → level (row_at S rows j).node ≤ level (row_at S rows l).node
  pub words : (j l : ℕ) → j < l → l < length rows → level (row_at S rows j).node ≡ level (row_at S rows l).node → Less (path rows j) (path rows l)
  pub best : (P : N → Bool) (j : ℕ) → j < length rows →
      ((l : ℕ) → l < j → P (row_at S rows l).node ≡ true → level (row_at S rows l).node ≢ level (row_at S rows j).node) →
      (p : List ℕ) (n : N) → Goes S S.first p n → P n ≡ true → level n ≡ level (row_at S rows j).node → (path rows j ≡ p) ⊎ Less (path rows j) p
