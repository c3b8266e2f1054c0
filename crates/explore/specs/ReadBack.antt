-- Reading a row's path back into a list of labels.
use Rattle.std.specs.Prelude.{ℕ, cond, List, ◌++◌, map, length, drop, Some, None, Ok, Err, Option, Result, nat_le, nat_lt, slice_index_or}
use Rattle.explore.specs.Paths.{path_to}
use Rattle.explore.specs.declared.path.NoPath.{NoPath}
use Rattle.explore.specs.declared.path.NoPath.TheVariants.{NoRow, Short}

-- the row that row j was found from, where that is an earlier one
abbrev pub parent_of : List ℕ → ℕ → Option ℕ
parent_of froms j = cond (nat_lt (slice_index_or froms j j) j) (Some (slice_index_or froms j j)) None

-- the labels that lead from row 0 of a caller's rows to row j, by what each says of where it was found from and by which label
abbrev pub path_by : {R : Type 0} → (R → ℕ) → (R → ℕ) → List R → ℕ → List ℕ
path_by from label rows j = path_to (map from rows) (map label rows) j

-- what reading back the path p of row j answers, where there are n rows, and room for c labels: its length, or why it is refused
abbrev pub back_path : ℕ → ℕ → List ℕ → ℕ → Result ℕ NoPath
back_path n j p c = cond (nat_lt j n) (cond (nat_le (length p) c) (Ok (length p)) (Err Short)) (Err NoRow)

-- the labels afterwards: the path and then what stood beyond it, or all as before where it is refused
abbrev pub written : Result ℕ NoPath → List ℕ → List ℕ → List ℕ
written (Ok k) p before = p ++ drop k before
written (Err e) p before = before
