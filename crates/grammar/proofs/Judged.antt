-- What the readers answer is the text's shape.
use Rattle.std.proofs.Common.{◌≡◌, ℕ, ◌+◌, List, [], ◌∷◌, Err, Result, sym, refl, ap, ◌∙◌, subst, arith}
use Rattle.grammar.specs.Recording.{Shape, whole, wrong, early, Shaped, Legal, LegalRule}
use Rattle.grammar.specs.Flaws.{flawed, shape_of}
use Rattle.grammar.specs.Machine.{Sym, n, form, run, start}
use Rattle.grammar.specs.Reading.{place, run_at, behind}
use Rattle.grammar.specs.Theorems.{OneShape}
use Rattle.grammar.specs.declared.cursor.Cursor.{Cursor}
use Rattle.grammar.specs.declared.flaw.Flaw.{Flaw}
use Rattle.grammar.proofs.Run.{Tracks, right, tracks, tracks_rule}
use Rattle.grammar.proofs.Meaning.{spelled, legal, spelled_rule, legal_rule}
use Rattle.grammar.proofs.One.{one_shape}

pub tracks_legal : Tracks Legal (start ∷ [])
tracks_legal = record { to = λ v h. legal v (tracks.to v h); from = λ v h. tracks.from v (spelled v h) }

pub tracks_legal_rule : Tracks LegalRule ((n (form 15) ∷ []) ∷ [])
tracks_legal_rule = record { to = λ v h. legal_rule v (tracks_rule.to v h); from = λ v h. tracks_rule.from v (spelled_rule v h) }

place_0 : (o : Shape) → place 0 o ≡ o
place_0 whole = refl
place_0 (wrong k) = let e : 0 + k ≡ k = omega arith in ap wrong e
place_0 early = refl

-- r is what the machine says of the text from its start on
pub judged : (Q : List ℕ → Type 0) (s : List Sym) (w : List ℕ) (c : Cursor) (r : Result (Unit {0}) Flaw) → Tracks Q (s ∷ []) → c.text.now ≡ w → c.at ≡ 0 → behind (s ∷ []) c ≡ shape_of r
    → Shaped Q w (shape_of r)
judged Q s w c r k ew ea e =
    let all : run (s ∷ []) w ≡ shape_of r = sym (place_0 (run (s ∷ []) w)) ∙ sym (ap (λ (u : List ℕ). run_at (s ∷ []) 0 u) ew) ∙ sym (ap (λ (i : ℕ). run_at (s ∷ []) i c.text.now) ea) ∙ e in
    subst (Shaped Q w) all (right w Q s [] k)

-- it is the flaw of what was read
pub broken : (Q : List ℕ → Type 0) (s : List Sym) (w : List ℕ) (c : Cursor) (e : Flaw) (r : Result (Unit {0}) Flaw) → Tracks Q (s ∷ []) → c.text.now ≡ w → c.at ≡ 0 → r ≡ Err e → behind (s ∷ []) c ≡ flawed e
    → Shaped Q w (shape_of r)
broken Q s w c e r k ew ea p h = judged Q s w c r k ew ea (h ∙ ap shape_of (sym p))

pub just_one : (Q : List ℕ → Type 0) (s : List Sym) → Tracks Q (s ∷ []) → OneShape Q
just_one Q s k w = (run (s ∷ []) w, right w Q s [] k, λ q h. one_shape Q w q (run (s ∷ []) w) h (right w Q s [] k))
