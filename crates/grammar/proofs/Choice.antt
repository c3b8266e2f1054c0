-- Rows beside one another, and the productions of a name as rows.
use Rattle.std.proofs.Common.{◌≡◌, ℕ, suc, ◌+◌, max, Bool, true, false, cond, ◌&&◌, List, [], ◌∷◌, ◌++◌, get_or, drop, sym, refl, ap, ◌∙◌, append_assoc, append-nil, arith}
use Rattle.grammar.specs.Recording.{Shape, whole, wrong, early}
use Rattle.grammar.specs.Machine.{has, Name, Sym, t, n, Prod, prods, nullable, keep, skip, pick, after, ends, any_ends, step, later, ended, next, run}
use Rattle.grammar.specs.Reading.{place, run_at, far}
use Rattle.grammar.proofs.Steps.{alike}

step-append : (S R : List (List Sym)) (b : ℕ) → step (S ++ R) b ≡ step S b ++ step R b
step-append [] R b = refl
step-append (s ∷ S) R b = ap (λ (X : List (List Sym)). after s b ++ X) (step-append S R b) ∙ sym (append_assoc (after s b) (step S b) (step R b))

ended_far : (S R : List (List Sym)) → ended (any_ends (S ++ R)) ≡ far (ended (any_ends S)) (ended (any_ends R))
ended_far [] R = go (any_ends R)
  where
    go : (v : Bool) → ended v ≡ far early (ended v)
    go true = refl
    go false = refl
ended_far (s ∷ S) R = go (ends s) (ended_far S R)
  where
    go : (v : Bool) → ended (any_ends (S ++ R)) ≡ far (ended (any_ends S)) (ended (any_ends R))
        → ended (cond v true (any_ends (S ++ R))) ≡ far (ended (cond v true (any_ends S))) (ended (any_ends R))
    go true e = refl
    go false e = e

later_far : (a b : Shape) → later (far a b) ≡ far (later a) (later b)
later_far whole b = refl
later_far (wrong k) whole = refl
later_far (wrong k) (wrong l) = let e : suc (max k l) ≡ max (suc k) (suc l) = omega arith in ap wrong e
later_far (wrong k) early = refl
later_far early whole = refl
later_far early (wrong l) = refl
later_far early early = refl

late_right : (a : Shape) → later a ≡ far (wrong 0) (later a)
late_right whole = refl
late_right (wrong k) = let e : suc k ≡ max 0 (suc k) = omega arith in ap wrong e
late_right early = refl

late_left : (a : Shape) → later a ≡ far (later a) (wrong 0)
late_left whole = refl
late_left (wrong k) = let e : suc k ≡ max (suc k) 0 = omega arith in ap wrong e
late_left early = refl

run_far : (w : List ℕ) (S R : List (List Sym)) → run (S ++ R) w ≡ far (run S w) (run R w)
run_far [] S R = ended_far S R
run_far (b ∷ w) S R =
    ap (λ (X : List (List Sym)). next X (run X w)) (step-append S R b) ∙ go (step S b) (step R b) (run_far w (step S b) (step R b))
  where
    go : (X Y : List (List Sym)) → run (X ++ Y) w ≡ far (run X w) (run Y w) → next (X ++ Y) (run (X ++ Y) w) ≡ far (next X (run X w)) (next Y (run Y w))
    go [] [] e = refl
    go [] (y ∷ Y) e = late_right (run (y ∷ Y) w)
    go (x ∷ X) [] e = ap (λ (Z : List (List Sym)). later (run (x ∷ Z) w)) (append-nil X) ∙ late_left (run (x ∷ X) w)
    go (x ∷ X) (y ∷ Y) e = ap later e ∙ later_far (run (x ∷ X) w) (run (y ∷ Y) w)

place_far : (i : ℕ) (a b : Shape) → place i (far a b) ≡ far (place i a) (place i b)
place_far i whole b = refl
place_far i (wrong k) whole = refl
place_far i (wrong k) (wrong l) = let e : i + max k l ≡ max (i + k) (i + l) = omega arith in ap wrong e
place_far i (wrong k) early = refl
place_far i early whole = refl
place_far i early (wrong l) = refl
place_far i early early = refl

pub either : (S R : List (List Sym)) (i : ℕ) (w : List ℕ) → run_at (S ++ R) i w ≡ far (run_at S i w) (run_at R i w)
either S R i w = ap (place i) (run_far (drop i w) S R) ∙ place_far i (run S (drop i w)) (run R (drop i w))

-- a name that takes a byte at least goes as its productions do
abbrev pub rows : List Prod → List Sym → List (List Sym)
rows [] s = []
rows (p ∷ ps) s = (t p.0 ∷ (p.1 ++ s)) ∷ rows ps s

keep_append : {A : Type 0} (v : Bool) (x : A) (xs : List A) → keep v x xs ≡ keep v x [] ++ xs
keep_append true x xs = refl
keep_append false x xs = refl

pick_rows : (ps : List Prod) (s : List Sym) (b : ℕ) → pick ps s b ≡ step (rows ps s) b
pick_rows [] s b = refl
pick_rows (p ∷ ps) s b =
    keep_append (has p.0 b) (p.1 ++ s) (pick ps s b) ∙ ap (λ (X : List (List Sym)). keep (has p.0 b) (p.1 ++ s) [] ++ X) (pick_rows ps s b)

no_end : (ps : List Prod) (s : List Sym) → any_ends (rows ps s) ≡ false
no_end [] s = refl
no_end (p ∷ ps) s = no_end ps s

pub expand : (x : Name) (s : List Sym) (i : ℕ) (w : List ℕ) → nullable x ≡ false → run_at ((n x ∷ s) ∷ []) i w ≡ run_at (rows (prods x) s) i w
expand x s i w e =
    alike ((n x ∷ s) ∷ []) (rows (prods x) s) i w
    (ap (λ (v : Bool). cond (v && ends s) true false) e ∙ sym (no_end (prods x) s))
    (λ l. ap (λ (v : Bool). (pick (prods x) s (get_or w i 0) ++ skip v (after s (get_or w i 0))) ++ []) e
    ∙ append-nil (pick (prods x) s (get_or w i 0) ++ []) ∙ append-nil (pick (prods x) s (get_or w i 0)) ∙ pick_rows (prods x) s (get_or w i 0))
