-- Formulas as rows of words, each word ahead of its parts.
use Rattle.std.specs.Prelude.{◌≡◌, ℕ, ◌+◌, ◌-◌, ◌<◌, ◌≤◌, List, length, drop, replicate, pos, Some, None, Option, slice_index, slice_index_or}
use Rattle.grammar.specs.Recording.{Formula, eq, lt, gt, mark, by, neg, before, once, always, and, or, implies, since}
use Rattle.formula.specs.declared.node.Node.{Node}
use Rattle.formula.specs.declared.node.Table.{Table}
use Rattle.formula.specs.declared.node.Node.TheVariants.{Eq, Lt, Gt, Mark, By, Not, And, Or, Implies, Before, Once, Always, Since}
use Rattle.formula.specs.declared.word.Word.{Word}
use Rattle.formula.specs.declared.word.Word.TheVariants.{Eq as EqW, Lt as LtW, Gt as GtW, Mark as MarkW, By as ByW, Not as NotW, And as AndW, Or as OrW, Implies as ImpliesW, Before as BeforeW, Once as OnceW, Always as AlwaysW, Since as SinceW}
use Rattle.formula.specs.Table.{Tabled}
use Rattle.formula.specs.Truth.{size}

-- what stands for the words past the end of a row
abbrev pub no_word : Word
no_word = EqW 0 (pos 0)

abbrev pub word_at : List Word → ℕ → Word
word_at ws i = slice_index_or ws i no_word

-- the words from i on spell the formula
abbrev pub Spells : List Word → ℕ → Formula → Type 0
Spells ws i (eq x c) = word_at ws i ≡ EqW x c
Spells ws i (lt x c) = word_at ws i ≡ LtW x c
Spells ws i (gt x c) = word_at ws i ≡ GtW x c
Spells ws i (mark k) = word_at ws i ≡ MarkW k
Spells ws i (by t) = word_at ws i ≡ ByW t
Spells ws i (neg f) = (word_at ws i ≡ NotW) × Spells ws (i + 1) f
Spells ws i (before f) = (word_at ws i ≡ BeforeW) × Spells ws (i + 1) f
Spells ws i (once f) = (word_at ws i ≡ OnceW) × Spells ws (i + 1) f
Spells ws i (always f) = (word_at ws i ≡ AlwaysW) × Spells ws (i + 1) f
Spells ws i (and f g) = (word_at ws i ≡ AndW) × Spells ws (i + 1) f × Spells ws (i + 1 + size f) g
Spells ws i (or f g) = (word_at ws i ≡ OrW) × Spells ws (i + 1) f × Spells ws (i + 1 + size f) g
Spells ws i (implies f g) = (word_at ws i ≡ ImpliesW) × Spells ws (i + 1) f × Spells ws (i + 1 + size f) g
Spells ws i (since f g) = (word_at ws i ≡ SinceW) × Spells ws (i + 1) f × Spells ws (i + 1 + size f) g

-- the words are those of the formula, and no others
abbrev pub Spell : List Word → Formula → Type 0
Spell ws f = Spells ws 0 f × (size f ≡ length ws)

-- what a row of words is compiled to: the table of the formula that it spells, where there is one of at most 60 words
abbrev pub CompiledTo : List Word → Option Table → Type 0
CompiledTo ws (Some t) = (t.len ≤ 60) × ((f : Formula) × Spell ws f × Tabled t.nodes t.len f)
CompiledTo ws None = length ws ≤ 60 → (f : Formula) → Spell ws f → ⊥

-- the rows beyond a table are marks of label 0
abbrev pub BlankBeyond : Option Table → Type 0
BlankBeyond (Some t) = drop t.len t.nodes ≡ replicate (60 - t.len) (Mark 0)
BlankBeyond None = Unit {0}

-- the words spell one formula at most
abbrev pub OneFormula : List Word → Type 0
OneFormula ws = (f g : Formula) → Spell ws f → Spell ws g → f ≡ g

-- The row is gone through from its last word to its first. `ends` has, for each later word, the number of the word behind its subformula.
-- A word's node, and the end of its subformula: of a word with no part, one part, two parts.
abbrev pub Leaf : ℕ → Node → Node → ℕ → Type 0
Leaf i o node end = (node ≡ o) × (end ≡ i + 1)

abbrev pub One : ℕ → ℕ → List ℕ → (ℕ → Node) → Node → ℕ → Type 0
One i n ends o node end = (i + 1 < n) × (node ≡ o (i + 1)) × (end ≡ slice_index ends (i + 1))

abbrev pub Two : ℕ → ℕ → List ℕ → (ℕ → ℕ → Node) → Node → ℕ → Type 0
Two i n ends o node end = (i + 1 < n) × (slice_index ends (i + 1) < n) × (node ≡ o (i + 1) (slice_index ends (i + 1))) × (end ≡ slice_index ends (slice_index ends (i + 1)))

abbrev pub Placing : ℕ → ℕ → List ℕ → Word → Node → ℕ → Type 0
Placing i n ends (EqW x c) node end = Leaf i (Eq x c) node end
Placing i n ends (LtW x c) node end = Leaf i (Lt x c) node end
Placing i n ends (GtW x c) node end = Leaf i (Gt x c) node end
Placing i n ends (MarkW k) node end = Leaf i (Mark k) node end
Placing i n ends (ByW k) node end = Leaf i (By k) node end
Placing i n ends NotW node end = One i n ends Not node end
Placing i n ends BeforeW node end = One i n ends Before node end
Placing i n ends OnceW node end = One i n ends Once node end
Placing i n ends AlwaysW node end = One i n ends Always node end
Placing i n ends AndW node end = Two i n ends And node end
Placing i n ends OrW node end = Two i n ends Or node end
Placing i n ends ImpliesW node end = Two i n ends Implies node end
Placing i n ends SinceW node end = Two i n ends Since node end

-- why a word has no place: a part that it needs is not there
abbrev pub Missing : ℕ → ℕ → List ℕ → Word → Type 0
Missing i n ends (EqW x c) = ⊥
Missing i n ends (LtW x c) = ⊥
Missing i n ends (GtW x c) = ⊥
Missing i n ends (MarkW k) = ⊥
Missing i n ends (ByW k) = ⊥
Missing i n ends NotW = n ≤ i + 1
Missing i n ends BeforeW = n ≤ i + 1
Missing i n ends OnceW = n ≤ i + 1
Missing i n ends AlwaysW = n ≤ i + 1
Missing i n ends AndW = i + 1 < n → n ≤ slice_index ends (i + 1)
Missing i n ends OrW = i + 1 < n → n ≤ slice_index ends (i + 1)
Missing i n ends ImpliesW = i + 1 < n → n ≤ slice_index ends (i + 1)
Missing i n ends SinceW = i + 1 < n → n ≤ slice_index ends (i + 1)
