-- The words that formulas and lines begin with.
use Rattle.std.proofs.Common.{◌≡◌, ℕ, zero, suc, ◌+◌, ◌-◌, ◌<◌, ◌≤◌, List, [], ◌∷◌, ◌++◌, length, get_or, take, drop, Ok, Err, Result, IfOk, IfErr, sym, refl, ap, ◌∙◌, subst, arith}
use Rattle.std.specs.Borrow.{Bor}
use Rattle.std.specs.List.{Contains}
use Rattle.std.proofs.lemmas.List.{take_more}
use Rattle.grammar.specs.Recording.{Shape}
use Rattle.grammar.specs.Flaws.{flawed}
use Rattle.grammar.specs.Machine.{form, leaf_ps, inner_ps, Sym, n, lits, later, run}
use Rattle.grammar.specs.Reading.{place, behind, far, Spelt, ReadsOne, word_rows, out_word}
use Rattle.grammar.specs.declared.cursor.Cursor.{Cursor}
use Rattle.grammar.specs.declared.flaw.Flaw.{Flaw}
use Rattle.grammar.proofs.Steps.{place_later}
use Rattle.grammar.proofs.Choice.{either, rows, expand}

rows_append : {T : Type 0} (ps qs : List (Bor (List ℕ) × T)) (f : T → List Sym) → word_rows (ps ++ qs) f ≡ word_rows ps f ++ word_rows qs f
rows_append [] qs f = refl
rows_append (p ∷ ps) qs f = ap (λ (S : List (List Sym)). lits p.0.now (f p.1) ∷ S) (rows_append ps qs f)

-- one more word that does not stand there
pub missed : {T : Type 0} (ps : List (Bor (List ℕ) × T)) (k : ℕ) (p : Bor (List ℕ) × T) (c : Cursor) (best e : Flaw) (f : T → List Sym) → k < length ps
    → p ≡ get_or ps k p → behind (word_rows (take k ps) f) c ≡ flawed best → behind (lits p.0.now (f p.1) ∷ []) c ≡ flawed e
    → behind (word_rows (take (k + 1) ps) f) c ≡ far (flawed best) (flawed e)
missed {T} ps k p c best e f l ep eb ee =
    ap (λ (qs : List (Bor (List ℕ) × T)). behind (word_rows qs f) c)
    (take_more ps k p l ∙ ap (λ (q : Bor (List ℕ) × T). take k ps ++ q ∷ []) (sym ep))
    ∙ ap (λ (S : List (List Sym)). behind S c) (rows_append (take k ps) (p ∷ []) f)
    ∙ either (word_rows (take k ps) f) (lits p.0.now (f p.1) ∷ []) c.at c.text.now
    ∙ ap (λ (x : Shape). far x (behind (lits p.0.now (f p.1) ∷ []) c)) eb ∙ ap (far (flawed best)) ee

-- as many bytes on
abbrev pub laters : ℕ → Shape → Shape
laters zero o = o
laters (suc k) o = later (laters k o)

place_laters : (m i : ℕ) (o : Shape) → place i (laters m o) ≡ place (i + m) o
place_laters zero i o = let e : i ≡ i + 0 = omega arith in ap (λ (k : ℕ). place k o) e
place_laters (suc m) i o =
    place_later i (laters m o) ∙ place_laters m (i + 1) o ∙ (let e : (i + 1) + m ≡ i + suc m = omega arith in ap (λ (k : ℕ). place k o) e)

-- where the word of p stands, the rows of the table leave the row of p only
abbrev pub Tells : {T : Type 0} → List (Bor (List ℕ) × T) → (T → List Sym) → List ℕ → Bor (List ℕ) × T → Type 0
Tells ps f u p = run (word_rows ps f) (p.0.now ++ u) ≡ laters (length p.0.now) (run (f p.1 ∷ []) u)

-- P of each
abbrev pub Each : {X : Type 0} → (X → Type 0) → List X → Type 0
Each P [] = Unit {0}
Each P (x ∷ xs) = P x × Each P xs

pub each : {X : Type 0} (P : X → Type 0) (xs : List X) (x : X) (k : ℕ) → Each P xs → k < length xs → get_or xs k x ≡ x → P x
each P [] x k h l e = absurd (omega arith)
each P (y ∷ ys) x zero (p, h) l e = subst P e p
each P (y ∷ ys) x (suc k) (p, h) l e = each P ys x k h (omega arith) e

-- a table whose words tell their rows apart
pub told : {T : Type 0} {ps : List (Bor (List ℕ) × T)} {c d : Cursor} {r : Result T Flaw} → ReadsOne ps c r d → (f : T → List Sym) → ((u : List ℕ) → Each (Tells ps f u) ps)
    → behind (word_rows ps f) c ≡ out_word r f d
told {T} {ps} {c} {d} {r} one f h = go r one.found one.missed
  where
    go : (r : Result T Flaw) → IfOk r (λ m. (w : Bor (List ℕ)) × Contains ps (w, m) × Spelt w.now c d)
        → IfErr r (λ e. (f : T → List Sym) → behind (word_rows ps f) c ≡ flawed e) → behind (word_rows ps f) c ≡ out_word r f d
    go (Ok m) (w, (k, l, e), (at, spelt)) none =
        ap (λ (u : List ℕ). place c.at (run (word_rows ps f) u)) spelt
        ∙ ap (place c.at) (each (Tells ps f (drop d.at d.text.now)) ps (w, m) k (h (drop d.at d.text.now)) l e)
        ∙ place_laters (length w.now) c.at (run (f m ∷ []) (drop d.at d.text.now))
        ∙ ap (λ (k : ℕ). place k (run (f m ∷ []) (drop d.at d.text.now))) (sym at)
    go (Err e) found none = none f

-- a formula is one of its productions
pub with_room : (d : ℕ) (s : List Sym) (c : Cursor) → 0 < d → behind ((n (form d) ∷ s) ∷ []) c ≡ behind (rows (leaf_ps ++ inner_ps (d - 1)) s) c
with_room zero s c h = absurd (omega arith)
with_room (suc e) s c h =
    expand (form (suc e)) s c.at c.text.now refl
    ∙ (let z : e ≡ suc e - 1 = omega arith in ap (λ (k : ℕ). behind (rows (leaf_ps ++ inner_ps k) s) c) z)

pub without_room : (d : ℕ) (s : List Sym) (c : Cursor) → d ≤ 0 → behind ((n (form d) ∷ s) ∷ []) c ≡ behind (rows leaf_ps s) c
without_room zero s c h = expand (form zero) s c.at c.text.now refl
without_room (suc e) s c h = absurd (omega arith)
