-- The listing computed, round by round, where there are levels.
use Rattle.std.specs.Prelude.{ℕ, zero, suc, ◌+◌, ◌-◌, Bool, true, false, ◌||◌, List, [], ◌∷◌, ◌++◌, length, Some, None, Option}
use Rattle.explore.specs.System.{System}
use Rattle.explore.specs.Rows.{Row, row_of, row_at, first_row}

-- a row has node m
abbrev pub listed : {N : Type 0} → (N → N → Bool) → List (Row N) → N → Bool
listed same [] m = false
listed same (r ∷ rows) m = same r.node m || listed same rows m

-- the row put last, unless its node is there
abbrev pub put_unless : {N : Type 0} → Bool → List (Row N) → Row N → List (Row N)
put_unless true rows r = rows
put_unless false rows r = rows ++ r ∷ []

-- the node that label a of row i leads to, if any, taken in
abbrev pub put : {N : Type 0} → (N → N → Bool) → List (Row N) → Option N → ℕ → ℕ → List (Row N)
put same rows None i a = rows
put same rows (Some m) i a = put_unless (listed same rows m) rows (row_of m i a)

-- n labels from a on, tried at row i
abbrev pub tried : {N : Type 0} → System N → (N → N → Bool) → List (Row N) → ℕ → ℕ → ℕ → List (Row N)
tried S same rows i a zero = rows
tried S same rows i a (suc n) = tried S same (put same rows (S.next (row_at S rows i).node a) i a) i (a + 1) n

-- n rows from i on, expanded
abbrev pub swept : {N : Type 0} → System N → (N → N → Bool) → List (Row N) → ℕ → ℕ → List (Row N)
swept S same rows i zero = rows
swept S same rows i (suc n) = swept S same (tried S same rows i 0 S.labels) (i + 1) n

-- n rounds: each expands the rows from i on that are listed as it begins
abbrev pub rounds : {N : Type 0} → System N → (N → N → Bool) → List (Row N) → ℕ → ℕ → List (Row N)
rounds S same rows i zero = rows
rounds S same rows i (suc n) = rounds S same (swept S same rows i (length rows - i)) (length rows) n

-- all rows of a system whose top level is `top`
abbrev pub computed : {N : Type 0} → System N → (N → N → Bool) → ℕ → List (Row N)
computed S same top = rounds S same (first_row S ∷ []) 0 (top + 1)
