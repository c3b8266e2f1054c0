-- Places of a list with one more element, and the order of steps.
use Rattle.std.proofs.Common.{◌≡◌, ℕ, ◌+◌, ◌<◌, ◌≤◌, ◌⊎◌, List, [], ◌∷◌, ◌++◌, length, get_or, sym, refl, ◌∙◌, inl, inr, ⊎_elim, arith}
use Rattle.std.proofs.lemmas.List.{get_or_append_left, get_or_push, length_push, get_or_default}
use Rattle.std.proofs.lemmas.Bool.{cases_lt}
use Rattle.explore.specs.System.{System}
use Rattle.explore.specs.Rows.{Row, At, Before, first_row, row_at}

module _ {A : Type 0} where
  pub at_self : (xs : List A) (j : ℕ) (d : A) → j < length xs → At xs j (get_or xs j d)
  at_self xs j d l = (l, get_or_default xs j d (get_or xs j d) l)

  pub at_old : (xs : List A) (y : A) (j : ℕ) (x : A) → At xs j x → At (xs ++ y ∷ []) j x
  at_old xs y j x h = (simp length_push (omega arith), h.1 ∙ sym (get_or_append_left xs (y ∷ []) x j h.0))

  pub at_new : (xs : List A) (y : A) → At (xs ++ y ∷ []) (length xs) y
  at_new xs y = (simp length_push (omega arith), sym (get_or_push xs y y (length xs) refl))

  -- one element stands at a place
  pub at_same : (xs : List A) (j : ℕ) (x y : A) → At xs j x → At xs j y → x ≡ y
  at_same xs j x y h k = h.1 ∙ get_or_default xs j x y h.0 ∙ sym k.1

  pub at_split : (xs : List A) (y : A) (j : ℕ) (x : A) → At (xs ++ y ∷ []) j x → At xs j x ⊎ ((j ≡ length xs) × (x ≡ y))
  at_split xs y j x h = ⊎_elim
      (λ l. inl (l, h.1 ∙ get_or_append_left xs (y ∷ []) x j l))
      (λ l. inr (omega (arith, simp length_push at h.0), h.1 ∙ get_or_push xs y x j (omega (arith, simp length_push at h.0))))
      (cases_lt j (length xs))

  -- ahead of the new place stands what stood there
  pub at_down : (xs : List A) (y : A) (j : ℕ) (x : A) → j < length xs → At (xs ++ y ∷ []) j x → At xs j x
  at_down xs y j x l h = (l, h.1 ∙ get_or_append_left xs (y ∷ []) x j l)

module _ {N : Type 0} (S : System N) where
  pub row-at : (rows : List (Row N)) (j : ℕ) → j < length rows → At rows j (row_at S rows j)
  row-at rows j l = at_self rows j (first_row S) l

  pub is_row_at : (rows : List (Row N)) (j : ℕ) (r : Row N) → At rows j r → r ≡ row_at S rows j
  is_row_at rows j r h = at_same rows j r (row_at S rows j) h (row-at rows j h.0)

-- (i, a) is (j, b) or ahead of it
abbrev pub NoLater : ℕ → ℕ → ℕ → ℕ → Type 0
NoLater i a j b = (i ≤ j) × (j ≤ i → a ≤ b)

pub split_before : (j b i a : ℕ) → Before j b i (a + 1) → Before j b i a ⊎ ((j ≡ i) × (b ≡ a))
split_before j b i a h = ⊎_elim
    (λ l. inl (omega arith))
    (λ l. ⊎_elim (λ m. inl (omega arith)) (λ m. inr (omega arith)) (cases_lt b a))
    (cases_lt j i)

pub before_turn : (j b i : ℕ) → Before j b (i + 1) 0 → j ≤ i
before_turn j b i h = ⊎_elim (λ l. absurd (omega (arith, h.1 (omega arith)))) (λ l. l) (cases_lt i j)

pub not-before : (j b i a : ℕ) → (Before j b i a → ⊥) → NoLater i a j b
not-before j b i a h = ⊎_elim
    (λ l. absurd (h (omega arith)))
    (λ l. ⊎_elim
    (λ k. omega arith)
    (λ k. ⊎_elim (λ m. absurd (h (omega arith))) (λ m. omega arith) (cases_lt b a))
    (cases_lt i j))
    (cases_lt j i)
