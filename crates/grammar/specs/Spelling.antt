-- Legal texts once more, by the bytes of their words and numbers in place of what these stand for: an inner layer, proved to have the
-- same legal texts, in which a formula's operators are four kinds, by what stands inside their brackets.
use Rattle.std.specs.Prelude.{◌≡◌, ℕ, zero, suc, ◌≤◌, ◌⊎◌, List, [], ◌∷◌, ◌++◌, codes}

-- x is one of the list
abbrev pub Among : {A : Type 0} → A → List A → Type 0
Among x [] = ⊥
Among x (y ∷ ys) = (x ≡ y) ⊎ Among x ys

-- at most k digits
abbrev pub Digits : ℕ → List ℕ → Type 0
Digits k [] = Unit {0}
Digits zero (d ∷ ds) = ⊥
Digits (suc k) (d ∷ ds) = ((48 ≤ d) × (d ≤ 57)) × Digits k ds

-- 1 to 10 digits, the first of which is not 0
abbrev pub Positive : List ℕ → Type 0
Positive [] = ⊥
Positive (d ∷ ds) = ((49 ≤ d) × (d ≤ 57)) × Digits 9 ds

-- the text of a number, and of one that may have a minus
abbrev pub Num : List ℕ → Type 0
Num w = (w ≡ 48 ∷ []) ⊎ Positive w

abbrev pub Int : List ℕ → Type 0
Int w = Num w ⊎ ((ds : List ℕ) × (w ≡ 45 ∷ ds) × Positive ds)

-- the words of formulas: with a variable and a constant, with one number, with one formula, with two
abbrev pub cmps : List (List ℕ)
cmps = codes "eq" ∷ codes "lt" ∷ codes "gt" ∷ []

abbrev pub tags : List (List ℕ)
tags = codes "mark" ∷ codes "by" ∷ []

abbrev pub uns : List (List ℕ)
uns = codes "not" ∷ codes "before" ∷ codes "once" ∷ codes "always" ∷ []

abbrev pub bins : List (List ℕ)
bins = codes "and" ∷ codes "or" ∷ codes "implies" ∷ codes "since" ∷ []

-- a formula by its words and the texts of its numbers
pub data Term : Type 0 where
  cmp : (word x c : List ℕ) → Term
  tag : (word k : List ℕ) → Term
  un : (word : List ℕ) → Term → Term
  bin : (word : List ℕ) → Term → Term → Term

-- a term with d levels of brackets at most inside its own
abbrev pub Fits : ℕ → Term → Type 0
Fits d (cmp w x c) = Among w cmps × Num x × Int c
Fits d (tag w k) = Among w tags × Num k
Fits zero (un w f) = ⊥
Fits (suc d) (un w f) = Among w uns × Fits d f
Fits zero (bin w f g) = ⊥
Fits (suc d) (bin w f g) = Among w bins × Fits d f × Fits d g

abbrev pub shown : Term → List ℕ
shown (cmp w x c) = 40 ∷ (w ++ (32 ∷ (x ++ (32 ∷ (c ++ (41 ∷ []))))))
shown (tag w k) = 40 ∷ (w ++ (32 ∷ (k ++ (41 ∷ []))))
shown (un w f) = 40 ∷ (w ++ (32 ∷ (shown f ++ (41 ∷ []))))
shown (bin w f g) = 40 ∷ (w ++ (32 ∷ (shown f ++ (32 ∷ (shown g ++ (41 ∷ []))))))

-- the words of the lines with a value, and of those without
abbrev pub ats : List (List ℕ)
ats = codes "internal" ∷ codes "read" ∷ codes "write" ∷ []

abbrev pub locks : List (List ℕ)
locks = codes "acquire" ∷ codes "release" ∷ []

-- a line: its word, thread, subject, and value if it has one
pub data Row : Type 0 where
  at : (word t s v : List ℕ) → Row
  lock : (word t s : List ℕ) → Row

abbrev pub RowFits : Row → Type 0
RowFits (at w t s v) = Among w ats × Num t × Num s × Int v
RowFits (lock w t s) = Among w locks × Num t × Num s

-- the row, and then `more`
abbrev pub row_line : Row → List ℕ → List ℕ
row_line (at w t s v) more = 40 ∷ (w ++ (32 ∷ (t ++ (32 ∷ (s ++ (32 ∷ (v ++ (41 ∷ 10 ∷ more))))))))
row_line (lock w t s) more = 40 ∷ (w ++ (32 ∷ (t ++ (32 ∷ (s ++ (41 ∷ 10 ∷ more))))))

abbrev pub AllInt : List (List ℕ) → Type 0
AllInt [] = Unit {0}
AllInt (v ∷ vs) = Int v × AllInt vs

abbrev pub AllFit : List Row → Type 0
AllFit [] = Unit {0}
AllFit (e ∷ es) = RowFits e × AllFit es

-- each after a blank
abbrev pub tails : List (List ℕ) → List ℕ
tails [] = []
tails (v ∷ vs) = 32 ∷ (v ++ tails vs)

-- a blank between any two
abbrev pub spaced : List (List ℕ) → List ℕ
spaced [] = []
spaced (v ∷ vs) = v ++ tails vs

-- the rows, and the rule's
abbrev pub row_lines : List Row → Term → List ℕ
row_lines [] f = 40 ∷ (codes "rule" ++ (32 ∷ (shown f ++ (41 ∷ 10 ∷ []))))
row_lines (e ∷ es) f = row_line e (row_lines es f)

-- a recording by its words and the texts of its numbers
pub record Spelling : Type 0 where
  pub count : List ℕ
  pub values : List (List ℕ)
  pub rows : List Row
  pub rule : Term

abbrev pub Sound : Spelling → Type 0
Sound r = Num r.count × AllInt r.values × AllFit r.rows × Fits 14 r.rule

abbrev pub render : Spelling → List ℕ
render r = codes "(open " ++ (r.count ++ (codes " (" ++ (spaced r.values ++ (codes "))" ++ (10 ∷ row_lines r.rows r.rule)))))

-- the legal texts of recordings, and of rules alone
abbrev pub Spelled : List ℕ → Type 0
Spelled t = (r : Spelling) × Sound r × (t ≡ render r)

abbrev pub SpelledRule : List ℕ → Type 0
SpelledRule t = (f : Term) × Fits 15 f × (t ≡ shown f)
