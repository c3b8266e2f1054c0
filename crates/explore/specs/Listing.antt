-- The list of all nodes that can be reached, breadth first, and what a limited room holds of it.
use Rattle.std.specs.Prelude.{◌≡◌, ℕ, ◌<◌, ◌≤◌, Bool, true, false, List, [], length, ◌≢◌}
use Rattle.explore.specs.System.{System, Steps}
use Rattle.explore.specs.Rows.{Row, At, Has, Lacks, Before, first_row}

-- Every row was rightly found: row 0 is the first node; each later row is an earlier row stepped by its label, and no step ahead of that one
-- leads to the same node; the steps rise along the list; and no node stands twice.
pub record Found {N : Type 0} (S : System N) (rows : List (Row N)) : Type 0 where
  pub root : (r : Row N) → At rows 0 r → r ≡ first_row S
  pub earlier : (j : ℕ) (r : Row N) → 0 < j → At rows j r → r.from < j
  pub stepped : (j : ℕ) (r p : Row N) → 0 < j → At rows j r → At rows r.from p → Steps S p.node r.label r.node
  pub earliest : (j i a : ℕ) (r s : Row N) → 0 < j → At rows j r → At rows i s → Before i a r.from r.label → Steps S s.node a r.node → ⊥
  pub rising : (j l : ℕ) (r s : Row N) → 0 < j → j < l → At rows j r → At rows l s → Before r.from r.label s.from s.label
  pub once : (j l : ℕ) (r s : Row N) → j < l → At rows j r → At rows l s → r.node ≢ s.node

-- Every step from a listed node leads to a listed node.
abbrev pub Closed : {N : Type 0} → System N → List (Row N) → Type 0
Closed {N} S rows = (j a : ℕ) (r : Row N) (m : N) → At rows j r → Steps S r.node a m → Has rows m

-- All that can be reached: the rows are rightly found, the first node among them, and no step leads out.
pub record Listing {N : Type 0} (S : System N) (rows : List (Row N)) : Type 0 where
  pub some : 0 < length rows
  pub found : Found S rows
  pub closed : Closed S rows

-- No step was left out: each step ahead of one that found a row leads to a listed node.
abbrev pub Passed : {N : Type 0} → System N → List (Row N) → Type 0
Passed {N} S rows =
    (l : ℕ) (t : Row N) → 0 < l → At rows l t →
    (j b : ℕ) (r : Row N) (m : N) → At rows j r → Before j b t.from t.label → Steps S r.node b m → Has rows m

-- A node that is wanted and not listed: the first one, where there is no row, or one that a step from a row leads to.
pub data Wanting {N : Type 0} (S : System N) : List (Row N) → Type 0 where
  none : Wanting S []
  next : {rows : List (Row N)} (j a : ℕ) (r : Row N) (m : N) → At rows j r → Steps S r.node a m → Lacks rows m → Wanting S rows

-- What the rows are: all of the listing, or as many as the room holds while another is wanted.
abbrev pub Extent : {N : Type 0} → System N → ℕ → List (Row N) → Bool → Type 0
Extent S c rows true = Listing S rows
Extent S c rows false = (length rows ≡ c) × Wanting S rows

-- With room for c rows: these rows are rightly found, no step was left out, and they are complete or fill the room.
pub record Holds {N : Type 0} (S : System N) (c : ℕ) (rows : List (Row N)) (complete : Bool) : Type 0 where
  pub fits : length rows ≤ c
  pub found : Found S rows
  pub passed : Passed S rows
  pub extent : Extent S c rows complete
