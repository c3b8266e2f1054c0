-- Rows as a caller keeps them.
use Rattle.std.specs.Prelude.{ℕ, Bool, List, map}
use Rattle.explore.specs.Rows.{Row, row_of}

-- the rows that a caller's rows stand for, by what each says of its node, where it was found from and by which label
abbrev pub rows_of : {R N : Type 0} → (R → N) → (R → ℕ) → (R → ℕ) → List R → List (Row N)
rows_of {R} node from label rows = map (λ (r : R). row_of (node r) (from r) (label r)) rows

-- what the trait of a caller's rows tells of each: its node, and the test for a given one; where it was found from, and by which label
abbrev pub Reading : Type 0 → Type 0 → Type 0
Reading R N = record { found_from : R → ℕ; found_by : R → ℕ; keyed : R → N; has : N → R → Bool }

-- the rows that they stand for by their trait
abbrev pub rows_by : {R N : Type 0} → Reading R N → List R → List (Row N)
rows_by reading rows = rows_of reading.keyed reading.found_from reading.found_by rows
