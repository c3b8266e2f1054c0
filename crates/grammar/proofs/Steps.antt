-- How the machine's word moves on with the reader's place.
use Rattle.std.proofs.Common.{◌≡◌, ℕ, zero, suc, ◌+◌, ◌<◌, ◌≤◌, Bool, true, false, List, [], ◌∷◌, ◌++◌, length, get_or, drop, Ok, Err, Result, sym, refl, ap, ◌∙◌, arith}
use native.Mathlib.Decide.{dec_lt}
use Rattle.grammar.proofs.Run.{has_to, has_from}
use Rattle.std.proofs.lemmas.List.{drop_more, drop_all}
use Rattle.grammar.specs.Recording.{Shape, whole, wrong, early}
use Rattle.grammar.specs.Machine.{is, any, Has, has, more, int, tail, vals, Sym, t, n, prods, keep, pick, after, any_ends, step, later, ended, next, run}
use Rattle.grammar.specs.Reading.{place, run_at, NoDigit, behind, out}
use Rattle.grammar.specs.Flaws.{flawed}
use Rattle.grammar.specs.declared.cursor.Cursor.{Cursor}
use Rattle.grammar.specs.declared.flaw.Flaw.{Flaw}

pub place_later : (i : ℕ) (o : Shape) → place i (later o) ≡ place (i + 1) o
place_later i whole = refl
place_later i (wrong k) = let e : i + suc k ≡ (i + 1) + k = omega arith in ap wrong e
place_later i early = refl

-- the byte at i leaves some rows
pub goes : (S R : List (List Sym)) (r : List Sym) (i : ℕ) (w : List ℕ) → i < length w → step S (get_or w i 0) ≡ r ∷ R → run_at S i w ≡ run_at (r ∷ R) (i + 1) w
goes S R r i w h e =
    ap (λ (u : List ℕ). place i (run S u)) (drop_more w i 0 h)
    ∙ ap (λ (X : List (List Sym)). place i (next X (run X (drop (i + 1) w)))) e
    ∙ place_later i (run (r ∷ R) (drop (i + 1) w))

-- it leaves none
pub stops : (S : List (List Sym)) (i : ℕ) (w : List ℕ) → i < length w → step S (get_or w i 0) ≡ [] → run_at S i w ≡ wrong i
stops S i w h e =
    ap (λ (u : List ℕ). place i (run S u)) (drop_more w i 0 h)
    ∙ ap (λ (X : List (List Sym)). place i (next X (run X (drop (i + 1) w)))) e
    ∙ (let z : i + 0 ≡ i = omega arith in ap wrong z)

-- no byte is left
pub at-end : (S : List (List Sym)) (i : ℕ) (w : List ℕ) → length w ≤ i → run_at S i w ≡ place i (ended (any_ends S))
at-end S i w h = ap (λ (u : List ℕ). place i (run S u)) (drop_all i w h)

-- rows that go on alike
pub alike : (S R : List (List Sym)) (i : ℕ) (w : List ℕ) → any_ends S ≡ any_ends R → (i < length w → step S (get_or w i 0) ≡ step R (get_or w i 0)) → run_at S i w ≡ run_at R i w
alike S R i w e f =
    elim (dec_lt i (length w)) [
      | yes h ↦ ap (λ (u : List ℕ). place i (run S u)) (drop_more w i 0 h)
          ∙ ap (λ (X : List (List Sym)). place i (next X (run X (drop (i + 1) w)))) (f h)
          ∙ sym (ap (λ (u : List ℕ). place i (run R u)) (drop_more w i 0 h))
      | no h ↦ let k : length w ≤ i = omega arith in at-end S i w k ∙ ap (λ (v : Bool). place i (ended v)) e ∙ sym (at-end R i w k)
    ]

keep_yes : {A : Type 0} (v : Bool) (x : A) (xs : List A) → v ≡ true → keep v x xs ≡ x ∷ xs
keep_yes true x xs e = refl
keep_yes false x xs e = cc

keep_no : {A : Type 0} (v : Bool) (x : A) (xs : List A) → (v ≡ true → ⊥) → keep v x xs ≡ xs
keep_no true x xs e = absurd (e refl)
keep_no false x xs e = refl

-- digits
pub digit_here : (k : ℕ) (s : List Sym) (i : ℕ) (w : List ℕ) → NoDigit s → i < length w → Has any (get_or w i 0)
    → run_at ((n (more (suc k)) ∷ s) ∷ []) i w ≡ run_at ((n (more k) ∷ s) ∷ []) (i + 1) w
digit_here k s i w nd l h =
    goes ((n (more (suc k)) ∷ s) ∷ []) [] (n (more k) ∷ s) i w l
    (ap (λ (S : List (List Sym)). (S ++ after s (get_or w i 0)) ++ []) (keep_yes (has any (get_or w i 0)) (n (more k) ∷ s) [] (has_to any (get_or w i 0) h))
    ∙ ap (λ (S : List (List Sym)). ((n (more k) ∷ s) ∷ S) ++ []) (nd (get_or w i 0) h.0 h.1))

pub digits_off : (k : ℕ) (s : List Sym) (i : ℕ) (w : List ℕ) → (i < length w → 0 < k → Has any (get_or w i 0) → ⊥)
    → run_at ((n (more k) ∷ s) ∷ []) i w ≡ run_at (s ∷ []) i w
digits_off zero s i w f = alike ((n (more zero) ∷ s) ∷ []) (s ∷ []) i w refl (λ l. refl)
digits_off (suc k) s i w f =
    alike ((n (more (suc k)) ∷ s) ∷ []) (s ∷ []) i w refl
    (λ l. ap (λ (S : List (List Sym)). (S ++ after s (get_or w i 0)) ++ []) (keep_no (has any (get_or w i 0)) (n (more k) ∷ s) [] (λ e. f l (omega arith) (has_from any (get_or w i 0) e))))

pub no_digit : (c : ℕ) (s : List Sym) → c < 48 → NoDigit (t (is c) ∷ s)
no_digit c s h b l u = keep_no (has (is c) b) s [] (λ e. let k = has_from (is c) b e in omega arith)

pub vals_some : (s : List Sym) (i : ℕ) (w : List ℕ) → (i < length w → get_or w i 0 ≡ 41 → ⊥) → run_at ((n vals ∷ t (is 41) ∷ s) ∷ []) i w ≡ run_at ((n int ∷ n tail ∷ t (is 41) ∷ s) ∷ []) i w
vals_some s i w f =
    alike ((n vals ∷ t (is 41) ∷ s) ∷ []) ((n int ∷ n tail ∷ t (is 41) ∷ s) ∷ []) i w refl
    (λ l. ap (λ (S : List (List Sym)). (pick (prods vals) (t (is 41) ∷ s) (get_or w i 0) ++ S) ++ []) (keep_no (has (is 41) (get_or w i 0)) s [] (λ e. f l (has_from (is 41) (get_or w i 0) e))))

pub tail_no_digit : (s : List Sym) → NoDigit (n tail ∷ t (is 41) ∷ s)
tail_no_digit s b l u =
    ap (λ (S : List (List Sym)). S ++ keep (has (is 41) b) s []) (keep_no (has (is 32) b) (n int ∷ n tail ∷ t (is 41) ∷ s) [] (λ e. let k = has_from (is 32) b e in omega arith))
    ∙ keep_no (has (is 41) b) s [] (λ e. let k = has_from (is 41) b e in omega arith)

-- a reader that fails because another has
pub failed : (S : List (List Sym)) (s : List Sym) (c d : Cursor) (e : Flaw) (r : Result (Unit {0}) Flaw) → r ≡ Err e → behind S c ≡ flawed e → behind S c ≡ out r s d
failed S s c d e (Ok u) p h = cc
failed S s c d e (Err f) p h = h ∙ (let q : e ≡ f = cc in ap flawed q)
