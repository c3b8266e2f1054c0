-- Paths, the order among them, and the path by which a row was found.
use Rattle.std.specs.Prelude.{◌≡◌, ℕ, zero, suc, ◌<◌, ◌≤◌, Bool, true, cond, ◌⊎◌, List, [], ◌∷◌, map, reverse, length, ◌≢◌, nat_lt, slice_index, slice_index_or}
use Rattle.explore.specs.System.{System, Goes}
use Rattle.explore.specs.Rows.{Row, Has, row_at}

-- The labels met on the way back from row j, at most f of them, where row k was found from row `get_or froms k` by `get_or labels k`: the way ends
-- at a row that was not found from one ahead of it, as row 0.
unfoldable pub back : List ℕ → List ℕ → ℕ → ℕ → List ℕ
back froms labels zero j = []
back froms labels (suc f) j = cond (nat_lt (slice_index_or froms j j) j) (slice_index labels j ∷ back froms labels f (slice_index_or froms j j)) []

-- the labels that lead from row 0 to row j; j of them are enough, since each step back goes to an earlier row
abbrev pub path_to : List ℕ → List ℕ → ℕ → List ℕ
path_to froms labels j = reverse (back froms labels j j)

abbrev pub froms : {N : Type 0} → List (Row N) → List ℕ
froms {N} rows = map (λ (r : Row N). r.from) rows

abbrev pub labels_of : {N : Type 0} → List (Row N) → List ℕ
labels_of {N} rows = map (λ (r : Row N). r.label) rows

-- the path by which row j was found
abbrev pub path : {N : Type 0} → List (Row N) → ℕ → List ℕ
path rows j = path_to (froms rows) (labels_of rows) j

-- p is less than q as a word: at the first place where they differ the smaller label is less
abbrev pub Less : List ℕ → List ℕ → Type 0
Less [] [] = ⊥
Less [] (b ∷ q) = Unit {0}
Less (a ∷ p) [] = ⊥
Less (a ∷ p) (b ∷ q) = (a ≤ b) × (b ≤ a → Less p q)

-- p is shorter than q, or as long and less as a word
abbrev pub Sooner : List ℕ → List ℕ → Type 0
Sooner p q = (length p ≤ length q) × (length q ≤ length p → Less p q)

-- What is true of a listing: its rows are exactly the nodes that can be reached, each once; a row's path leads to its node, and is the first
-- of all paths that do; rows stand in the order of their paths; and the first row that passes a test has the first path of all that lead to
-- such a node.
pub record Reaches {N : Type 0} (S : System N) (rows : List (Row N)) : Type 0 where
  pub leads : (j : ℕ) → j < length rows → Goes S S.first (path rows j) (row_at S rows j).node
  pub reached : (p : List ℕ) (n : N) → Goes S S.first p n → Has rows n
  pub once : (j l : ℕ) → j < l → l < length rows → (row_at S rows j).node ≢ (row_at S rows l).node
  pub soonest : (j : ℕ) (p : List ℕ) → j < length rows → Goes S S.first p (row_at S rows j).node → (path rows j ≡ p) ⊎ Sooner (path rows j) p
  pub order : (j l : ℕ) → j < l → l < length rows → Sooner (path rows j) (path rows l)
  pub best : (P : N → Bool) (j : ℕ) → j < length rows → ((l : ℕ) → l < j → P (row_at S rows l).node ≢ true) →
      (p : List ℕ) (n : N) → Goes S S.first p n → P n ≡ true → (path rows j ≡ p) ⊎ Sooner (path rows j) p
