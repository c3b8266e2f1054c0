-- Tables of lent rows as an exploration fills them.
use Rattle.std.specs.Prelude.{◌≡◌, ℕ, ◌≤◌, Bool, true, false, List, length, drop, Ok, Err, Result}
use Rattle.rows.specs.declared.list.Full.{Full}
use Rattle.rows.specs.Listed.{lent, count, loan}
use Rattle.explore.specs.declared.engine.Exploration.{Exploration}
use Rattle.explore.specs.System.{System}
use Rattle.explore.specs.Rows.{Row, Has, Lacks}
use Rattle.explore.specs.Listing.{Holds}
use Rattle.explore.specs.Upto.{Upto}

-- The list in a table has grown from k to n rows, and the rows beyond stay as they were.
pub record Grown {R : Type 0} (before after : List R) (k n : ℕ) : Type 0 where
  pub more : k ≤ n
  pub fits : n ≤ length after
  pub long : length after ≡ length before
  pub beyond : drop n after ≡ drop n before

-- An exploration goes on: it keeps its machine, its list and the loan of its rows; and the list has grown.
pub record GoesOn {N R M : Type 0} (before after : Exploration N R M) : Type 0 where
  pub machine : after.machine ≡ before.machine
  pub list : after.list.ghost_name ≡ before.list.ghost_name
  pub loan : loan after.list.now ≡ loan before.list.now
  pub grown : Grown (lent before.list.now) (lent after.list.now) (count before.list.now) (count after.list.now)

-- how many rows an exploration listed, of c: as many as it answers, or all where it answers that they are full
abbrev pub listed_in : ℕ → Result ℕ Full → ℕ
listed_in c (Ok n) = n
listed_in c (Err full) = c

-- whether a node is listed
abbrev pub Stands : {N : Type 0} → List (Row N) → N → Bool → Type 0
Stands rows m true = Has rows m
Stands rows m false = Lacks rows m

-- What a step leaves: the rows are those up to label a at row i; or another row is wanted, and the room is full.
abbrev pub Leaves : {N U F : Type 0} → System N → ℕ → List (Row N) → ℕ → ℕ → Result U F → Type 0
Leaves S c rows i a (Ok u) = Upto S rows i a
Leaves S c rows i a (Err f) = Holds S c rows false
