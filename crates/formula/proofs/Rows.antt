-- From the words of the subformulas, one by one, to the formula that they spell; and from its table to a sound one.
use Rattle.std.proofs.Common.{◌≡◌, ℕ, suc, ◌+◌, ◌<◌, ◌≤◌, true, ltb, List, [], ◌∷◌, ◌++◌, length, get_or, sym, ap, ◌∙◌, subst, arith}
use Rattle.std.proofs.lemmas.Bool.{and_from, lt-ltb}
use Rattle.grammar.specs.Recording.{Formula, eq, lt, gt, mark, by, neg, before, once, always, and, or, implies, since}
use Rattle.formula.specs.declared.node.Node.{Node}
use Rattle.formula.specs.declared.node.Node.TheVariants.{And}
use Rattle.formula.specs.declared.word.Word.{Word}
use Rattle.formula.specs.Reading.{word_of}
use Rattle.formula.specs.Suiting.{suits, Suited}
use Rattle.formula.specs.Table.{node_at, Numbered, Tabled, between, inside, Sound}
use Rattle.formula.specs.Truth.{subformulas, size}
use Rattle.formula.specs.Words.{word_at, Spells}
use Rattle.formula.proofs.Parts.{parts_size, placed}
use Rattle.formula.proofs.Truths.{size_pos}

-- the words from i on are those of the formulas
abbrev Same : List Word → ℕ → List Formula → Type 0
Same ws i [] = Unit {0}
Same ws i (g ∷ gs) = (word_at ws i ≡ word_of g) × Same ws (i + 1) gs

same_from : (ws : List Word) (gs : List Formula) (i : ℕ) (d : Formula) → ((j : ℕ) → j < length gs → word_at ws (i + j) ≡ word_of (get_or gs j d)) → Same ws i gs
same_from ws [] i d h = tt
same_from ws (g ∷ gs) i d h =
    let here : i + 0 ≡ i = omega arith in (
      ap (word_at ws) (sym here) ∙ h 0 (omega arith),
      same_from ws gs (i + 1) d (λ j l. let next : i + 1 + j ≡ i + suc j = omega arith in ap (word_at ws) next ∙ h (suc j) (omega arith)),
    )

same_split : (ws : List Word) (fs gs : List Formula) (i : ℕ) → Same ws i (fs ++ gs) → Same ws i fs × Same ws (i + length fs) gs
same_split ws [] gs i s = let same : i ≡ i + 0 = omega arith in (tt, subst (λ n. Same ws n gs) same s)
same_split ws (f ∷ fs) gs i s =
    let p = same_split ws fs gs (i + 1) s.1 in
    let same : i + 1 + length fs ≡ i + suc (length fs) = omega arith in
    ((s.0, p.0), subst (λ n. Same ws n gs) same p.1)

module _ (ws : List Word) where
  halves : (f g : Formula) (i : ℕ) → Same ws i (subformulas f ++ subformulas g) → Same ws i (subformulas f) × Same ws (i + size f) (subformulas g)
  halves f g i s =
      let p = same_split ws (subformulas f) (subformulas g) i s in
      (p.0, subst (λ n. Same ws (i + n) (subformulas g)) (parts_size f) p.1)

  spells_same : (f : Formula) (i : ℕ) → Same ws i (subformulas f) → Spells ws i f
  spells_same (eq x c) i s = s.0
  spells_same (lt x c) i s = s.0
  spells_same (gt x c) i s = s.0
  spells_same (mark k) i s = s.0
  spells_same (by t) i s = s.0
  spells_same (neg f) i s = (s.0, spells_same f (i + 1) s.1)
  spells_same (before f) i s = (s.0, spells_same f (i + 1) s.1)
  spells_same (once f) i s = (s.0, spells_same f (i + 1) s.1)
  spells_same (always f) i s = (s.0, spells_same f (i + 1) s.1)
  spells_same (and f g) i s = let p = halves f g (i + 1) s.1 in (s.0, spells_same f (i + 1) p.0, spells_same g (i + 1 + size f) p.1)
  spells_same (or f g) i s = let p = halves f g (i + 1) s.1 in (s.0, spells_same f (i + 1) p.0, spells_same g (i + 1 + size f) p.1)
  spells_same (implies f g) i s = let p = halves f g (i + 1) s.1 in (s.0, spells_same f (i + 1) p.0, spells_same g (i + 1 + size f) p.1)
  spells_same (since f g) i s = let p = halves f g (i + 1) s.1 in (s.0, spells_same f (i + 1) p.0, spells_same g (i + 1 + size f) p.1)

  pub spells_words : (f : Formula) → ((j : ℕ) → j < size f → word_at ws j ≡ word_of (get_or (subformulas f) j f)) → Spells ws 0 f
  spells_words f h =
      spells_same f 0 (same_from ws (subformulas f) 0 f (λ j l.
      let same : 0 + j ≡ j = omega arith in ap (word_at ws) same ∙ h j (omega (arith, parts_size f))))

-- each node of a formula's table has its parts behind it
module _ (v n : ℕ) (nodes : List Node) where
  part : (i k : ℕ) → i < k → k < n → between i n k ≡ true
  part i k a b = and_from (ltb i k) (ltb k n) (lt-ltb i k a) (lt-ltb k n b)

  parts : (i k l : ℕ) → i < k → k < n → i < l → l < n → inside v n i (And k l) ≡ true
  parts i k l a b c d = and_from (between i n k) (between i n l) (part i k a b) (part i l c d)

  node_inside : (f : Formula) (i : ℕ) → Numbered nodes i f → i + size f ≤ n → suits v (word_of f) ≡ true → inside v n i (node_at nodes i) ≡ true
  node_inside (eq x c) i t h s = ap (inside v n i) t ∙ s
  node_inside (lt x c) i t h s = ap (inside v n i) t ∙ s
  node_inside (gt x c) i t h s = ap (inside v n i) t ∙ s
  node_inside (mark k) i t h s = ap (inside v n i) t
  node_inside (by k) i t h s = ap (inside v n i) t
  node_inside (neg f) i t h s = ap (inside v n i) t.0 ∙ part i (i + 1) (omega arith) (omega (arith, size_pos f))
  node_inside (before f) i t h s = ap (inside v n i) t.0 ∙ part i (i + 1) (omega arith) (omega (arith, size_pos f))
  node_inside (once f) i t h s = ap (inside v n i) t.0 ∙ part i (i + 1) (omega arith) (omega (arith, size_pos f))
  node_inside (always f) i t h s = ap (inside v n i) t.0 ∙ part i (i + 1) (omega arith) (omega (arith, size_pos f))
  node_inside (and f g) i t h s =
      ap (inside v n i) t.0 ∙ parts i (i + 1) (i + 1 + size f) (omega arith) (omega (arith, size_pos f)) (omega arith) (omega (arith, size_pos g))
  node_inside (or f g) i t h s =
      ap (inside v n i) t.0 ∙ parts i (i + 1) (i + 1 + size f) (omega arith) (omega (arith, size_pos f)) (omega arith) (omega (arith, size_pos g))
  node_inside (implies f g) i t h s =
      ap (inside v n i) t.0 ∙ parts i (i + 1) (i + 1 + size f) (omega arith) (omega (arith, size_pos f)) (omega arith) (omega (arith, size_pos g))
  node_inside (since f g) i t h s =
      ap (inside v n i) t.0 ∙ parts i (i + 1) (i + 1 + size f) (omega arith) (omega (arith, size_pos f)) (omega arith) (omega (arith, size_pos g))

  pub sound_from : (f : Formula) → Tabled nodes n f → Suited v f → Sound v n nodes
  sound_from f tab suited i h =
      let low : i < length (subformulas f) = omega (arith, tab.all, parts_size f) in
      let at = placed nodes n f 0 tab.numbered (omega (arith, tab.all)) i f low in
      let same : 0 + i ≡ i = omega arith in
      subst (λ j. inside v n j (node_at nodes j) ≡ true) same (node_inside (get_or (subformulas f) i f) (0 + i) at.0 at.1 (suited i (omega (arith, tab.all))))
