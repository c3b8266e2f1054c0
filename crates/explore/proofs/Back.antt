-- The way back from a row.
use Rattle.std.proofs.Common.{◌≡◌, ℕ, zero, suc, ◌<◌, ◌≤◌, Bool, true, false, cond, ltb, List, [], ◌∷◌, length, get_or, sym, refl, ap, ◌∙◌, arith}
use Rattle.std.proofs.lemmas.List.{get_or-map}
use Rattle.std.proofs.lemmas.Bool.{lt-ltb, le-ltb, ltb-true, ltb-false}
use Rattle.explore.specs.System.{System}
use Rattle.explore.specs.Rows.{Row, row_at, first_row}
use Rattle.explore.specs.Listing.{Found}
use Rattle.explore.specs.Paths.{back, froms, labels_of}
use Rattle.explore.proofs.Places.{row-at}

pub back_none : (fs ls : List ℕ) (j : ℕ) → back fs ls zero j ≡ []
unfolding back
back_none fs ls j = refl

pub back_stop : (fs ls : List ℕ) (f j : ℕ) → j ≤ get_or fs j j → back fs ls f j ≡ []
unfolding back
back_stop fs ls zero j h = refl
back_stop fs ls (suc f) j h = ap (λ (b : Bool). cond b (get_or ls j 0 ∷ back fs ls f (get_or fs j j)) []) (le-ltb (get_or fs j j) j h)

pub back_more : (fs ls : List ℕ) (f j : ℕ) → get_or fs j j < j → back fs ls (suc f) j ≡ get_or ls j 0 ∷ back fs ls f (get_or fs j j)
unfolding back
back_more fs ls f j h = ap (λ (b : Bool). cond b (get_or ls j 0 ∷ back fs ls f (get_or fs j j)) []) (lt-ltb (get_or fs j j) j h)

-- at most j labels are met on the way back from row j
pub back_enough : (fs ls : List ℕ) (f g j : ℕ) → j ≤ f → j ≤ g → back fs ls f j ≡ back fs ls g j
back_enough fs ls zero zero j h k = refl
back_enough fs ls zero (suc g) j h k = back_none fs ls j ∙ sym (back_stop fs ls (suc g) j (omega arith))
back_enough fs ls (suc f) zero j h k = back_stop fs ls (suc f) j (omega arith) ∙ sym (back_none fs ls j)
back_enough fs ls (suc f) (suc g) j h k =
    go (ltb (get_or fs j j) j) refl (λ (l : get_or fs j j < j). back_enough fs ls f g (get_or fs j j) (omega arith) (omega arith))
  where
    go : (b : Bool) → ltb (get_or fs j j) j ≡ b → (get_or fs j j < j → back fs ls f (get_or fs j j) ≡ back fs ls g (get_or fs j j)) →
        back fs ls (suc f) j ≡ back fs ls (suc g) j
    go true t ih =
        let l : get_or fs j j < j = ltb-true (get_or fs j j) j t in
        back_more fs ls f j l ∙ ap (λ (w : List ℕ). get_or ls j 0 ∷ w) (ih l) ∙ sym (back_more fs ls g j l)
    go false t ih =
        let l : j ≤ get_or fs j j = ltb-false (get_or fs j j) j t in
        back_stop fs ls (suc f) j l ∙ sym (back_stop fs ls (suc g) j l)

-- In rows that were rightly found.
module _ {N : Type 0} (S : System N) (rows : List (Row N)) (v : Found S rows) where
  unfoldable pub way : ℕ → ℕ → List ℕ
  way f j = back (froms rows) (labels_of rows) f j

  pub up : (j : ℕ) → 0 < j → j < length rows → (row_at S rows j).from < j
  up j p b = v.earlier j (row_at S rows j) p (row-at S rows j b)

  from_is : (j : ℕ) → j < length rows → get_or (froms rows) j j ≡ (row_at S rows j).from
  from_is j b = get_or-map (λ (r : Row N). r.from) rows j (first_row S) j b

  label_is : (j : ℕ) → j < length rows → get_or (labels_of rows) j 0 ≡ (row_at S rows j).label
  label_is j b = get_or-map (λ (r : Row N). r.label) rows j (first_row S) 0 b

  pub way_none : (f : ℕ) → way f zero ≡ []
  unfolding way
  way_none f = back_stop (froms rows) (labels_of rows) f zero (omega arith)

  pub way_more : (f j : ℕ) → 0 < j → j < length rows → way (suc f) j ≡ (row_at S rows j).label ∷ way f (row_at S rows j).from
  unfolding way
  way_more f j p b =
      let e = from_is j b in
      let l = label_is j b in
      back_more (froms rows) (labels_of rows) f j (rw e (up j p b)) ∙ cc

  pub way_enough : (f g j : ℕ) → j ≤ f → j ≤ g → way f j ≡ way g j
  unfolding way
  way_enough f g j h k = back_enough (froms rows) (labels_of rows) f g j h k
