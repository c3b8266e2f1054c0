-- The subformulas of a formula, and where the table has them.
use Rattle.std.proofs.Common.{◌≡◌, ℕ, zero, suc, ◌+◌, ◌-◌, ◌<◌, ◌≤◌, List, [], ◌∷◌, ◌++◌, length, get_or, sym, refl, subst, ⊎_elim, arith, length-append}
use Rattle.std.proofs.lemmas.List.{get_or_append_left, get_or-append_right}
use Rattle.std.proofs.lemmas.Bool.{cases_lt}
use Rattle.formula.specs.declared.node.Node.{Node}
use Rattle.grammar.specs.Recording.{Formula, eq, lt, gt, mark, by, neg, before, once, always, and, or, implies, since}
use Rattle.formula.specs.Truth.{subformulas, size}
use Rattle.formula.specs.Table.{Numbered}

pub parts_size : (f : Formula) → length (subformulas f) ≡ size f
parts_size (eq x c) = refl
parts_size (lt x c) = refl
parts_size (gt x c) = refl
parts_size (mark k) = refl
parts_size (by t) = refl
parts_size (neg f) = omega (arith, parts_size f)
parts_size (and f g) = omega (arith, length-append (subformulas f) (subformulas g), parts_size f, parts_size g)
parts_size (or f g) = omega (arith, length-append (subformulas f) (subformulas g), parts_size f, parts_size g)
parts_size (implies f g) = omega (arith, length-append (subformulas f) (subformulas g), parts_size f, parts_size g)
parts_size (before f) = omega (arith, parts_size f)
parts_size (once f) = omega (arith, parts_size f)
parts_size (always f) = omega (arith, parts_size f)
parts_size (since f g) = omega (arith, length-append (subformulas f) (subformulas g), parts_size f, parts_size g)

-- the table has g at k, and ends it by n
abbrev Placed : List Node → ℕ → ℕ → Formula → Type 0
Placed nodes n k g = Numbered nodes k g × (k + size g ≤ n)

-- every subformula of a row of them is placed
abbrev Row : List Node → ℕ → ℕ → List Formula → Type 0
Row nodes n i fs = (j : ℕ) (d : Formula) → j < length fs → Placed nodes n (i + j) (get_or fs j d)

row_cons : (nodes : List Node) (n i : ℕ) (f : Formula) (fs : List Formula) → Placed nodes n i f → Row nodes n (i + 1) fs → Row nodes n i (f ∷ fs)
row_cons nodes n i f fs p r zero d h = let same : i ≡ i + 0 = omega arith in subst (λ k. Placed nodes n k f) same p
row_cons nodes n i f fs p r (suc j) d h = let same : i + 1 + j ≡ i + suc j = omega arith in subst (λ k. Placed nodes n k (get_or fs j d)) same (r j d (omega arith))

row_append : (nodes : List Node) (n i : ℕ) (fs gs : List Formula) → Row nodes n i fs → Row nodes n (i + length fs) gs → Row nodes n i (fs ++ gs)
row_append nodes n i fs gs r s j d h =
    ⊎_elim
    (λ l. subst (Placed nodes n (i + j)) (sym (get_or_append_left fs gs d j l)) (r j d l))
    (λ l.
    let same : i + length fs + (j - length fs) ≡ i + j = omega arith in
    let q = s (j - length fs) d (omega (arith, length-append fs gs)) in
    subst (Placed nodes n (i + j)) (sym (get_or-append_right fs gs (length fs) j d refl l))
    (subst (λ k. Placed nodes n k (get_or gs (j - length fs) d)) same q))
    (cases_lt j (length fs))

row-none : (nodes : List Node) (n i : ℕ) → Row nodes n i []
row-none nodes n i j d h = absurd (omega arith)

module _ (nodes : List Node) (n : ℕ) where
  two : (i : ℕ) (h f g : Formula) → Placed nodes n i h → Row nodes n (i + 1) (subformulas f) → Row nodes n (i + 1 + size f) (subformulas g) → Row nodes n i (h ∷ (subformulas f ++ subformulas g))
  two i h f g p r s =
      row_cons nodes n i h (subformulas f ++ subformulas g) p
      (row_append nodes n (i + 1) (subformulas f) (subformulas g) r (subst (λ k. Row nodes n (i + 1 + k) (subformulas g)) (sym (parts_size f)) s))

  pub placed : (f : Formula) (i : ℕ) → Numbered nodes i f → i + size f ≤ n → Row nodes n i (subformulas f)
  placed (eq x c) i t h = row_cons nodes n i (eq x c) [] (t, h) (row-none nodes n (i + 1))
  placed (lt x c) i t h = row_cons nodes n i (lt x c) [] (t, h) (row-none nodes n (i + 1))
  placed (gt x c) i t h = row_cons nodes n i (gt x c) [] (t, h) (row-none nodes n (i + 1))
  placed (mark k) i t h = row_cons nodes n i (mark k) [] (t, h) (row-none nodes n (i + 1))
  placed (by k) i t h = row_cons nodes n i (by k) [] (t, h) (row-none nodes n (i + 1))
  placed (neg f) i t h = row_cons nodes n i (neg f) (subformulas f) (t, h) (placed f (i + 1) t.1 (omega arith))
  placed (and f g) i t h = two i (and f g) f g (t, h) (placed f (i + 1) t.1 (omega arith)) (placed g (i + 1 + size f) t.2 (omega arith))
  placed (or f g) i t h = two i (or f g) f g (t, h) (placed f (i + 1) t.1 (omega arith)) (placed g (i + 1 + size f) t.2 (omega arith))
  placed (implies f g) i t h = two i (implies f g) f g (t, h) (placed f (i + 1) t.1 (omega arith)) (placed g (i + 1 + size f) t.2 (omega arith))
  placed (before f) i t h = row_cons nodes n i (before f) (subformulas f) (t, h) (placed f (i + 1) t.1 (omega arith))
  placed (once f) i t h = row_cons nodes n i (once f) (subformulas f) (t, h) (placed f (i + 1) t.1 (omega arith))
  placed (always f) i t h = row_cons nodes n i (always f) (subformulas f) (t, h) (placed f (i + 1) t.1 (omega arith))
  placed (since f g) i t h = two i (since f g) f g (t, h) (placed f (i + 1) t.1 (omega arith)) (placed g (i + 1 + size f) t.2 (omega arith))
