-- The word of a formula, read where the formula stands in a text.
use Rattle.std.proofs.Common.{◌≡◌, ℕ, ◌+◌, ◌-◌, ◌<◌, ◌≤◌, List, ◌∷◌, ◌++◌, length, take, get_or, get_or-take, length-take, arith, drop, ℤ, pos, Ok, decimal, Result, sym, refl, ap, ◌∙◌, subst}
use Rattle.std.specs.Fmt.{signed_decimal}
use Rattle.std.proofs.lemmas.List.{drop-drop, get_or-drop}
use Rattle.grammar.specs.Recording.{Formula, eq, lt, gt, mark, by, neg, before, once, always, and, or, implies, since}
use Rattle.grammar.specs.Recording.{Piece, small, flat, formula}
use Rattle.text.specs.declared.fault.TextFault.{TextFault}
use Rattle.formula.specs.declared.word.Word.{Word}
use Rattle.formula.specs.declared.word.Word.TheVariants.{Eq as EqW, Lt as LtW, Gt as GtW, Mark as MarkW, By as ByW, Not as NotW, And as AndW, Or as OrW, Implies as ImpliesW, Before as BeforeW, Once as OnceW, Always as AlwaysW, Since as SinceW}
use Rattle.formula.specs.Reading.{operator, Ten, filled_one, filled_two, pair_at, head_at, ReadsNumber, ReadsPair}

-- which words have which numbers
abbrev pub Compares : Word → Type 0
Compares (EqW _ _) = Unit {0}
Compares (LtW _ _) = Unit {0}
Compares (GtW _ _) = Unit {0}
Compares (MarkW _) = ⊥
Compares (ByW _) = ⊥
Compares NotW = ⊥
Compares BeforeW = ⊥
Compares OnceW = ⊥
Compares AlwaysW = ⊥
Compares AndW = ⊥
Compares OrW = ⊥
Compares ImpliesW = ⊥
Compares SinceW = ⊥

abbrev pub Marks : Word → Type 0
Marks (EqW _ _) = ⊥
Marks (LtW _ _) = ⊥
Marks (GtW _ _) = ⊥
Marks (MarkW _) = Unit {0}
Marks (ByW _) = ⊥
Marks NotW = ⊥
Marks BeforeW = ⊥
Marks OnceW = ⊥
Marks AlwaysW = ⊥
Marks AndW = ⊥
Marks OrW = ⊥
Marks ImpliesW = ⊥
Marks SinceW = ⊥

abbrev pub Bys : Word → Type 0
Bys (EqW _ _) = ⊥
Bys (LtW _ _) = ⊥
Bys (GtW _ _) = ⊥
Bys (MarkW _) = ⊥
Bys (ByW _) = Unit {0}
Bys NotW = ⊥
Bys BeforeW = ⊥
Bys OnceW = ⊥
Bys AlwaysW = ⊥
Bys AndW = ⊥
Bys OrW = ⊥
Bys ImpliesW = ⊥
Bys SinceW = ⊥

-- a word with what was read for it
abbrev pub read : Word → Result (ℕ × ℤ) TextFault → Result ℕ TextFault → Result Word TextFault
read (EqW x c) p n = filled_two (EqW x c) p
read (LtW x c) p n = filled_two (LtW x c) p
read (GtW x c) p n = filled_two (GtW x c) p
read (MarkW k) p n = filled_one (MarkW k) n
read (ByW t) p n = filled_one (ByW t) n
read NotW p n = Ok NotW
read BeforeW p n = Ok BeforeW
read OnceW p n = Ok OnceW
read AlwaysW p n = Ok AlwaysW
read AndW p n = Ok AndW
read OrW p n = Ok OrW
read ImpliesW p n = Ok ImpliesW
read SinceW p n = Ok SinceW

module _ (t : List ℕ) (k : ℕ) where
  -- the byte that stands i behind k, where the text from k on has it
  pub letter : (i a : ℕ) → 3 ≤ length (take (length t - k) (drop k t)) → i < 3 → get_or (take (length t - k) (drop k t)) i 0 ≡ a → get_or t (k + i) 0 ≡ a
  letter i a long low e = sym (get_or-drop k t i 0) ∙ sym (get_or-take (length t - k) (drop k t) i 0 (omega (arith, length-take (length t - k) (drop k t)))) ∙ e

  -- a formula's first letters
  letters : (a b : ℕ) (rest : List ℕ) → drop k t ≡ 40 ∷ a ∷ b ∷ rest → operator (get_or t (k + 1) 0) (get_or t (k + 2) 0) ≡ operator a b
  letters a b rest e =
      ap (λ x. operator x (get_or t (k + 2) 0)) (sym (get_or-drop k t 1 0) ∙ ap (λ bs. get_or bs 1 0) e)
      ∙ ap (operator a) (sym (get_or-drop k t 2 0) ∙ ap (λ bs. get_or bs 2 0) e)

  -- what stands n bytes behind
  behind : (n : ℕ) (bs rest : List ℕ) → drop k t ≡ bs → drop n bs ≡ rest → drop (k + n) t ≡ rest
  behind n bs rest e f = sym (drop-drop n k t) ∙ ap (drop n) e ∙ f

  module _ (w : Word) (begun : w ≡ operator (get_or t (k + 1) 0) (get_or t (k + 2) 0)) (p : Result (ℕ × ℤ) TextFault) (n : Result ℕ TextFault)
      (pair : Compares w → ReadsPair t (k + 4) p) (label : Marks w → ReadsNumber small t (k + 6) n) (thread : Bys w → ReadsNumber small t (k + 4) n) where
    plain : (v : Word) (a b : ℕ) (rest : List ℕ) → operator a b ≡ v → drop k t ≡ 40 ∷ a ∷ b ∷ rest → read w p n ≡ read v p n
    plain v a b rest o e = ap (λ u. read u p n) (begun ∙ letters a b rest e ∙ o)

    compare : (v : Word) (a b : ℕ) (x : ℕ) (c : ℤ) (more : List ℕ) → operator a b ≡ v → Compares v → Ten (eq x c)
        → drop k t ≡ 40 ∷ a ∷ b ∷ 32 ∷ (decimal x ++ (32 ∷ (signed_decimal c ++ (41 ∷ more)))) → p ≡ pair_at t (k + 4) x c
    compare v a b x c more o compares ten e =
        let is : v ≡ w = sym (begun ∙ letters a b (32 ∷ (decimal x ++ (32 ∷ (signed_decimal c ++ (41 ∷ more))))) e ∙ o) in
        pair (subst Compares is compares) x c (41 ∷ more) ten.0 ten.1 refl (behind 4 _ _ e refl)

    pub head_read : (f : Formula) (more : List Piece) → Ten f → drop k t ≡ flat (formula f more) → read w p n ≡ head_at t k f
    head_read (eq x c) more ten e =
        plain (EqW 0 (pos 0)) 101 113 _ refl e ∙ ap (filled_two (EqW 0 (pos 0))) (compare (EqW 0 (pos 0)) 101 113 x c (flat more) refl tt ten e)
    head_read (lt x c) more ten e =
        plain (LtW 0 (pos 0)) 108 116 _ refl e ∙ ap (filled_two (LtW 0 (pos 0))) (compare (LtW 0 (pos 0)) 108 116 x c (flat more) refl tt ten e)
    head_read (gt x c) more ten e =
        plain (GtW 0 (pos 0)) 103 116 _ refl e ∙ ap (filled_two (GtW 0 (pos 0))) (compare (GtW 0 (pos 0)) 103 116 x c (flat more) refl tt ten e)
    head_read (mark m) more ten e =
        let is : MarkW 0 ≡ w = sym (begun ∙ letters 109 97 _ e) in
        plain (MarkW 0) 109 97 _ refl e ∙ ap (filled_one (MarkW 0)) (label (subst Marks is tt) m (41 ∷ flat more) tt ten refl (behind 6 _ _ e refl))
    head_read (by m) more ten e =
        let is : ByW 0 ≡ w = sym (begun ∙ letters 98 121 _ e) in
        plain (ByW 0) 98 121 _ refl e ∙ ap (filled_one (ByW 0)) (thread (subst Bys is tt) m (41 ∷ flat more) tt ten refl (behind 4 _ _ e refl))
    head_read (neg f) more ten e = plain NotW 110 111 _ refl e
    head_read (before f) more ten e = plain BeforeW 98 101 _ refl e
    head_read (once f) more ten e = plain OnceW 111 110 _ refl e
    head_read (always f) more ten e = plain AlwaysW 97 108 _ refl e
    head_read (and f g) more ten e = plain AndW 97 110 _ refl e
    head_read (or f g) more ten e = plain OrW 111 114 _ refl e
    head_read (implies f g) more ten e = plain ImpliesW 105 109 _ refl e
    head_read (since f g) more ten e = plain SinceW 115 105 _ refl e
