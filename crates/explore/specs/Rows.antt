-- Rows: nodes with the step by which each was found.
use Rattle.std.specs.Prelude.{◌≡◌, ℕ, ◌<◌, ◌≤◌, List, length, ◌≢◌, slice_index_or}
use Rattle.explore.specs.System.{System}

-- A node, the place of the row that it was found from, and the label of the step from there.
pub record Row (N : Type 0) : Type 0 where
  pub node : N
  pub from : ℕ
  pub label : ℕ

abbrev pub row_of : {N : Type 0} → N → ℕ → ℕ → Row N
row_of n i a = record { node = n; from = i; label = a }

-- row 0: the first node, which no step found
abbrev pub first_row : {N : Type 0} → System N → Row N
first_row S = row_of S.first 0 255

-- x stands at place j of xs
abbrev pub At : {A : Type 0} → List A → ℕ → A → Type 0
At xs j x = (j < length xs) × (x ≡ slice_index_or xs j x)

-- row j; past the end, row 0
abbrev pub row_at : {N : Type 0} → System N → List (Row N) → ℕ → Row N
row_at S rows j = slice_index_or rows j (first_row S)

-- node m is listed
pub record Has {N : Type 0} (rows : List (Row N)) (m : N) : Type 0 where
  pub place : ℕ
  pub row : Row N
  pub at : At rows place row
  pub is : row.node ≡ m

-- node m is not listed
abbrev pub Lacks : {N : Type 0} → List (Row N) → N → Type 0
Lacks {N} rows m = (x : ℕ) (s : Row N) → At rows x s → s.node ≢ m

-- label a at row i comes ahead of label b at row j, in the order in which steps are tried
abbrev pub Before : ℕ → ℕ → ℕ → ℕ → Type 0
Before i a j b = (i ≤ j) × (j ≤ i → a < b)
