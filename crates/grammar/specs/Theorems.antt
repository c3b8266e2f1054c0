-- That a text has one shape, and that it says one thing.
use Rattle.std.specs.Prelude.{◌≡◌, ℕ, List, []}
use Rattle.grammar.specs.Recording.{Formula, Recording, Nests, Proper, Shape, Shaped, flat, formula, pieces}

-- of each text exactly one shape is right
abbrev pub OneShape : (List ℕ → Type 0) → Type 0
OneShape Q = (t : List ℕ) → (s : Shape) × Shaped Q t s × ((q : Shape) → Shaped Q t q → q ≡ s)

-- no two recordings are written alike
abbrev pub OneRecording : Type 0
OneRecording = (r q : Recording) → Proper r → Proper q → flat (pieces r) ≡ flat (pieces q) → r ≡ q

-- no two rules are
abbrev pub OneRule : Type 0
OneRule = (f g : Formula) → Nests 15 f → Nests 15 g → flat (formula f []) ≡ flat (formula g []) → f ≡ g
