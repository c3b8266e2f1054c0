-- The grammar as productions that each begin with a byte, and the machine that goes by them.
use Rattle.std.specs.Prelude.{◌≡◌, ℕ, zero, suc, ◌≤◌, Bool, true, false, cond, ◌&&◌, List, [], ◌∷◌, ◌++◌, map, codes, ◌==◌, nat_le}
use Rattle.grammar.specs.Recording.{Shape, whole, wrong, early}
use Rattle.grammar.specs.Spelling.{cmps, tags, uns, bins, ats, locks}

-- a class of bytes: one, a digit, a digit other than 0
pub data Class : Type 0 where
  is : ℕ → Class
  any some : Class

-- b is of the class, as a fact and as a test
abbrev pub Has : Class → ℕ → Type 0
Has (is c) b = b ≡ c
Has any b = (48 ≤ b) × (b ≤ 57)
Has some b = (49 ≤ b) × (b ≤ 57)

abbrev pub has : Class → ℕ → Bool
has (is c) b = b == c
has any b = nat_le 48 b && nat_le b 57
has some b = nat_le 49 b && nat_le b 57

-- what has productions of its own: at most k digits, a number, one that may have a minus, the values after the first, the values, the
-- lines from here on, a formula with room for d levels of brackets inside its own
pub data Name : Type 0 where
  more : ℕ → Name
  num int tail vals rest : Name
  form : ℕ → Name

-- a symbol of the grammar: a byte of a class, or a name
pub data Sym : Type 0 where
  t : Class → Sym
  n : Name → Sym

-- these bytes, and then s
abbrev pub lits : List ℕ → List Sym → List Sym
lits [] s = s
lits (c ∷ cs) s = t (is c) ∷ lits cs s

-- a production: its first byte, and the symbols behind
abbrev pub Prod : Type 0
Prod = Class × List Sym

-- the productions of formulas, by their word
abbrev pub cmp_p : List ℕ → Prod
cmp_p w = (is 40, lits w (t (is 32) ∷ n num ∷ t (is 32) ∷ n int ∷ t (is 41) ∷ []))

abbrev pub tag_p : List ℕ → Prod
tag_p w = (is 40, lits w (t (is 32) ∷ n num ∷ t (is 41) ∷ []))

abbrev pub un_p : ℕ → List ℕ → Prod
un_p d w = (is 40, lits w (t (is 32) ∷ n (form d) ∷ t (is 41) ∷ []))

abbrev pub bin_p : ℕ → List ℕ → Prod
bin_p d w = (is 40, lits w (t (is 32) ∷ n (form d) ∷ t (is 32) ∷ n (form d) ∷ t (is 41) ∷ []))

abbrev pub leaf_ps : List Prod
leaf_ps = map cmp_p cmps ++ map tag_p tags

abbrev pub inner_ps : ℕ → List Prod
inner_ps d = map (un_p d) uns ++ map (bin_p d) bins

-- the productions of lines, by their word
abbrev pub at_p : List ℕ → Prod
at_p w = (is 40, lits w (t (is 32) ∷ n num ∷ t (is 32) ∷ n num ∷ t (is 32) ∷ n int ∷ t (is 41) ∷ t (is 10) ∷ n rest ∷ []))

abbrev pub lock_p : List ℕ → Prod
lock_p w = (is 40, lits w (t (is 32) ∷ n num ∷ t (is 32) ∷ n num ∷ t (is 41) ∷ t (is 10) ∷ n rest ∷ []))

abbrev pub rule_p : List ℕ → Prod
rule_p w = (is 40, lits w (t (is 32) ∷ n (form 14) ∷ t (is 41) ∷ t (is 10) ∷ []))

abbrev pub event_ps : List Prod
event_ps = map at_p ats ++ map lock_p locks

abbrev pub prods : Name → List Prod
prods (more zero) = []
prods (more (suc k)) = (any, n (more k) ∷ []) ∷ []
prods num = (is 48, []) ∷ (some, n (more 9) ∷ []) ∷ []
prods int = (is 48, []) ∷ (some, n (more 9) ∷ []) ∷ (is 45, t some ∷ n (more 9) ∷ []) ∷ []
prods tail = (is 32, n int ∷ n tail ∷ []) ∷ []
prods vals = (is 48, n tail ∷ []) ∷ (some, n (more 9) ∷ n tail ∷ []) ∷ (is 45, t some ∷ n (more 9) ∷ n tail ∷ []) ∷ []
prods rest = rule_p (codes "rule") ∷ event_ps
prods (form zero) = leaf_ps
prods (form (suc d)) = leaf_ps ++ inner_ps d

-- the names that can be left out
abbrev pub nullable : Name → Bool
nullable (more k) = true
nullable num = false
nullable int = false
nullable tail = true
nullable vals = true
nullable rest = false
nullable (form d) = false

abbrev pub keep : {A : Type 0} → Bool → A → List A → List A
keep true x xs = x ∷ xs
keep false x xs = xs

abbrev pub skip : {A : Type 0} → Bool → List A → List A
skip true xs = xs
skip false xs = []

-- what may follow the byte b by one of the productions, with s behind
abbrev pub pick : List Prod → List Sym → ℕ → List (List Sym)
pick [] s b = []
pick (p ∷ ps) s b = keep (has p.0 b) (p.1 ++ s) (pick ps s b)

-- what may follow the byte b where the row s is to come, each as a row of symbols
abbrev pub after : List Sym → ℕ → List (List Sym)
after [] b = []
after (t c ∷ s) b = keep (has c b) s []
after (n x ∷ s) b = pick (prods x) s b ++ skip (nullable x) (after s b)

-- the row, one of the rows, takes the empty text
abbrev pub ends : List Sym → Bool
ends [] = true
ends (t c ∷ s) = false
ends (n x ∷ s) = nullable x && ends s

abbrev pub any_ends : List (List Sym) → Bool
any_ends [] = false
any_ends (s ∷ S) = cond (ends s) true (any_ends S)

-- the machine: all that may follow the byte b, as rows
abbrev pub step : List (List Sym) → ℕ → List (List Sym)
step [] b = []
step (s ∷ S) b = after s b ++ step S b

-- the shape of a text with one more byte ahead
abbrev pub later : Shape → Shape
later whole = whole
later (wrong k) = wrong (suc k)
later early = early

abbrev pub ended : Bool → Shape
ended true = whole
ended false = early

abbrev pub next : List (List Sym) → Shape → Shape
next [] o = wrong 0
next (s ∷ S) o = later o

-- the shape of a text where one of the rows S is to come
abbrev pub run : List (List Sym) → List ℕ → Shape
run S [] = ended (any_ends S)
run S (b ∷ w) = next (step S b) (run (step S b) w)

-- the row of a recording
abbrev pub start : List Sym
start = lits (codes "(open ") (n num ∷ lits (codes " (") (n vals ∷ lits (codes "))") (t (is 10) ∷ n rest ∷ [])))
