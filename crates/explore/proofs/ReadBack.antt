-- One step of the way back after the other.
use Rattle.std.proofs.Common.{◌≡◌, ℕ, zero, suc, ◌+◌, ◌<◌, ◌≤◌, Bool, true, false, cond, ltb, List, [], ◌∷◌, ◌++◌, map, reverse, length, get_or, drop, set, Some, None, sym, refl, ap, ◌∙◌, arith}
use mathlib.Core.List.{map-map, reverse-cons}
use Rattle.std.proofs.lemmas.List.{get_or-map, get_or_past, length-map, length-reverse, append_assoc, drop-set}
use Rattle.std.proofs.lemmas.Bool.{lt-ltb, le-ltb, ltb-true, ltb-false}
use Rattle.explore.specs.Rows.{Row, At, row_of}
use Rattle.explore.specs.Paths.{back, path_to, path, labels_of}
use Rattle.explore.specs.Entries.{rows_of}
use Rattle.explore.specs.ReadBack.{parent_of}
use Rattle.explore.proofs.Back.{back_stop, back_more, back_enough}

-- what the test for a parent says
pub parent_is : (fs : List ℕ) (i f : ℕ) → get_or fs i i ≡ f → f < i → Some f ≡ parent_of fs i
parent_is fs i f e h = sym (ap (λ (b : Bool). cond b (Some (get_or fs i i)) None) (lt-ltb (get_or fs i i) i (omega arith)) ∙ ap Some e)

pub parent_not : (fs : List ℕ) (i : ℕ) → i ≤ get_or fs i i → None ≡ parent_of fs i
parent_not fs i h = sym (ap (λ (b : Bool). cond b (Some (get_or fs i i)) None) (le-ltb (get_or fs i i) i h))

pub some_parent : (fs : List ℕ) (i f : ℕ) → Some f ≡ parent_of fs i → (get_or fs i i ≡ f) × (get_or fs i i < i)
some_parent fs i f e = go (ltb (get_or fs i i) i) refl e
  where
    go : (b : Bool) → ltb (get_or fs i i) i ≡ b → Some f ≡ cond b (Some (get_or fs i i)) None → (get_or fs i i ≡ f) × (get_or fs i i < i)
    go true t q = (cc, ltb-true (get_or fs i i) i t)
    go false t q = let z : ◌≡◌ {A = ℕ} 0 1 = cc in absurd (omega arith)

pub no_parent : (fs : List ℕ) (i : ℕ) → None ≡ parent_of fs i → i ≤ get_or fs i i
no_parent fs i e = go (ltb (get_or fs i i) i) refl e
  where
    go : (b : Bool) → ltb (get_or fs i i) i ≡ b → None ≡ cond b (Some (get_or fs i i)) None → i ≤ get_or fs i i
    go true t q = let z : ◌≡◌ {A = ℕ} 0 1 = cc in absurd (omega arith)
    go false t q = ltb-false (get_or fs i i) i t

-- the way back from row i begins with its label and goes on from its parent
pub back_parent : (fs ls : List ℕ) (i f : ℕ) → Some f ≡ parent_of fs i → back fs ls i i ≡ get_or ls i 0 ∷ back fs ls f f
back_parent fs ls zero f e = let h = (some_parent fs zero f e).1 in absurd (omega arith)
back_parent fs ls (suc i) f e =
    let p = some_parent fs (suc i) f e in
    let q = p.0 in
    let h = p.1 in
    back_more fs ls i (suc i) h
    ∙ ap (λ (w : List ℕ). get_or ls (suc i) 0 ∷ w) (ap (λ (k : ℕ). back fs ls i k) q ∙ back_enough fs ls i f f (omega arith) (omega arith))

pub path_more : (fs ls : List ℕ) (i f : ℕ) → Some f ≡ parent_of fs i → length (path_to fs ls i) ≡ length (path_to fs ls f) + 1
path_more fs ls i f e =
    let a = length-reverse (back fs ls i i) in
    let b = length-reverse (back fs ls f f) in
    let d = ap length (back_parent fs ls i f e) in
    omega arith

pub path_root : (fs ls : List ℕ) (i : ℕ) → None ≡ parent_of fs i → path_to fs ls i ≡ []
path_root fs ls i e = ap reverse (back_stop fs ls i i (no_parent fs i e))

-- one label more is written, ahead of those that were
pub laid_more : (fs ls : List ℕ) (i f n k l : ℕ) (whole labels : List ℕ) → Some f ≡ parent_of fs i → n ≡ k + 1 → k < length labels → l ≡ get_or ls i 0 →
    whole ≡ path_to fs ls i ++ drop n labels → whole ≡ path_to fs ls f ++ drop k (set labels k l)
laid_more fs ls i f n k l whole labels e m h p q =
    q
    ∙ ap (λ (w : List ℕ). reverse w ++ drop n labels) (back_parent fs ls i f e)
    ∙ ap (λ (w : List ℕ). w ++ drop n labels) (reverse-cons (get_or ls i 0) (back fs ls f f))
    ∙ append_assoc (path_to fs ls f) (get_or ls i 0 ∷ []) (drop n labels)
    ∙ ap (λ (x : ℕ). path_to fs ls f ++ x ∷ drop n labels) (sym p)
    ∙ ap (λ (x : ℕ). path_to fs ls f ++ l ∷ drop x labels) m
    ∙ ap (λ (w : List ℕ). path_to fs ls f ++ w) (sym (drop-set labels k l h))

-- a column of the rows, read at a place
module _ {R : Type 0} (column : R → ℕ) (xs : List R) where
  pub from_read : (i : ℕ) (r : R) → At xs i r → get_or (map column xs) i i ≡ column r
  from_read i r h = get_or-map column xs i r i h.0 ∙ ap column (sym h.1)

  pub label_read : (i : ℕ) (r : R) → At xs i r → get_or (map column xs) i 0 ≡ column r
  label_read i r h = get_or-map column xs i r 0 h.0 ∙ ap column (sym h.1)

  pub from_past : (i : ℕ) → length xs ≤ i → get_or (map column xs) i i ≡ i
  from_past i h = get_or_past (map column xs) i i (let n = length-map xs column in omega arith)

-- the path of a row, by the columns of a caller's rows
pub path_is : {R N : Type 0} (node : R → N) (from label : R → ℕ) (xs : List R) (j : ℕ) → path (rows_of node from label xs) j ≡ path_to (map from xs) (map label xs) j
path_is {R} {N} node from label xs j =
    ap (λ (fs : List ℕ). path_to fs (labels_of (rows_of node from label xs)) j) (map-map (λ (ρ : Row N). ρ.from) (λ (x : R). row_of (node x) (from x) (label x)) xs)
    ∙ ap (λ (ls : List ℕ). path_to (map from xs) ls j) (map-map (λ (ρ : Row N). ρ.label) (λ (x : R). row_of (node x) (from x) (label x)) xs)
