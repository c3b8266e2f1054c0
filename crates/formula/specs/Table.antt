-- Tables of subformulas, in which each has a number and names its parts by theirs.
use Rattle.std.specs.Prelude.{◌≡◌, ℕ, ◌+◌, ◌<◌, Bool, true, ◌&&◌, List, pos, nat_lt, slice_index_or}
use Rattle.grammar.specs.Recording.{Formula, eq, lt, gt, mark, by, neg, before, once, always, and, or, implies, since}
use Rattle.formula.specs.declared.node.Node.{Node}
use Rattle.formula.specs.declared.node.Node.TheVariants.{Eq, Lt, Gt, Mark, By, Not, Before, Once, Always, And, Or, Implies, Since}
use Rattle.formula.specs.Truth.{size}

-- what stands for the nodes past the end of a table
abbrev pub no_node : Node
no_node = Eq 0 (pos 0)

-- subformula i of a table
abbrev pub node_at : List Node → ℕ → Node
node_at nodes i = slice_index_or nodes i no_node

-- the table lists the formula's subformulas in the order of their words, from number i on
abbrev pub Numbered : List Node → ℕ → Formula → Type 0
Numbered nodes i (eq x c) = node_at nodes i ≡ Eq x c
Numbered nodes i (lt x c) = node_at nodes i ≡ Lt x c
Numbered nodes i (gt x c) = node_at nodes i ≡ Gt x c
Numbered nodes i (mark k) = node_at nodes i ≡ Mark k
Numbered nodes i (by t) = node_at nodes i ≡ By t
Numbered nodes i (neg f) = (node_at nodes i ≡ Not (i + 1)) × Numbered nodes (i + 1) f
Numbered nodes i (before f) = (node_at nodes i ≡ Before (i + 1)) × Numbered nodes (i + 1) f
Numbered nodes i (once f) = (node_at nodes i ≡ Once (i + 1)) × Numbered nodes (i + 1) f
Numbered nodes i (always f) = (node_at nodes i ≡ Always (i + 1)) × Numbered nodes (i + 1) f
Numbered nodes i (and f g) = (node_at nodes i ≡ And (i + 1) (i + 1 + size f)) × Numbered nodes (i + 1) f × Numbered nodes (i + 1 + size f) g
Numbered nodes i (or f g) = (node_at nodes i ≡ Or (i + 1) (i + 1 + size f)) × Numbered nodes (i + 1) f × Numbered nodes (i + 1 + size f) g
Numbered nodes i (implies f g) = (node_at nodes i ≡ Implies (i + 1) (i + 1 + size f)) × Numbered nodes (i + 1) f × Numbered nodes (i + 1 + size f) g
Numbered nodes i (since f g) = (node_at nodes i ≡ Since (i + 1) (i + 1 + size f)) × Numbered nodes (i + 1) f × Numbered nodes (i + 1 + size f) g

-- the first n nodes are the table of the formula
pub record Tabled (nodes : List Node) (n : ℕ) (f : Formula) : Type 0 where
  pub numbered : Numbered nodes 0 f
  pub all : n ≡ size f

-- subformula i of n has its variables below v, and its parts after itself and below n
abbrev pub Inside : ℕ → ℕ → ℕ → Node → Type 0
Inside v n i (Eq x c) = x < v
Inside v n i (Lt x c) = x < v
Inside v n i (Gt x c) = x < v
Inside v n i (Mark k) = Unit {0}
Inside v n i (By t) = Unit {0}
Inside v n i (Not f) = (i < f) × (f < n)
Inside v n i (Before f) = (i < f) × (f < n)
Inside v n i (Once f) = (i < f) × (f < n)
Inside v n i (Always f) = (i < f) × (f < n)
Inside v n i (And f g) = (i < f) × (f < n) × (i < g) × (g < n)
Inside v n i (Or f g) = (i < f) × (f < n) × (i < g) × (g < n)
Inside v n i (Implies f g) = (i < f) × (f < n) × (i < g) × (g < n)
Inside v n i (Since f g) = (i < f) × (f < n) × (i < g) × (g < n)

-- the same as a test, which a ghost field can hold
abbrev pub between : ℕ → ℕ → ℕ → Bool
between i n f = nat_lt i f && nat_lt f n

abbrev pub inside : ℕ → ℕ → ℕ → Node → Bool
inside v n i (Eq x c) = nat_lt x v
inside v n i (Lt x c) = nat_lt x v
inside v n i (Gt x c) = nat_lt x v
inside v n i (Mark k) = true
inside v n i (By t) = true
inside v n i (Not f) = between i n f
inside v n i (Before f) = between i n f
inside v n i (Once f) = between i n f
inside v n i (Always f) = between i n f
inside v n i (And f g) = between i n f && between i n g
inside v n i (Or f g) = between i n f && between i n g
inside v n i (Implies f g) = between i n f && between i n g
inside v n i (Since f g) = between i n f && between i n g

-- every one of a table of n
abbrev pub Sound : ℕ → ℕ → List Node → Type 0
Sound v n nodes = (i : ℕ) → i < n → inside v n i (node_at nodes i) ≡ true
