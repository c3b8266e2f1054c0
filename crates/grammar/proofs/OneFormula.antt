-- No two formulas are written alike.
use Rattle.std.proofs.Common.{◌≡◌, ℕ, zero, suc, ◌-◌, ◌^◌, ◌<◌, List, [], ◌∷◌, ◌++◌, get_or, ℤ, codes, decimal, sym, refl, ap, ◌∙◌, arith}
use Rattle.std.specs.Fmt.{signed_decimal}
use Rattle.std.proofs.lemmas.List.{append_cancel_left}
use Rattle.grammar.specs.Recording.{Formula, eq, lt, gt, mark, by, neg, before, once, always, and, or, implies, since, Piece, closing, blank, flat, formula, TenDigits, Nests}
use Rattle.grammar.specs.Theorems.{OneRule}
use Rattle.grammar.proofs.Solid.{Solid, split_off, number_then, integer_then, find, solid_of}

-- a formula as its word's number and what is inside
data Args : Type 0 where
  compare : ℕ → ℤ → Args
  name : ℕ → Args
  one : Formula → Args
  two : Formula → Formula → Args

abbrev op_of : Formula → ℕ
op_of (eq x c) = 0
op_of (lt x c) = 1
op_of (gt x c) = 2
op_of (mark k) = 3
op_of (by k) = 4
op_of (neg f) = 5
op_of (before f) = 6
op_of (once f) = 7
op_of (always f) = 8
op_of (and f g) = 9
op_of (or f g) = 10
op_of (implies f g) = 11
op_of (since f g) = 12

abbrev args_of : Formula → Args
args_of (eq x c) = compare x c
args_of (lt x c) = compare x c
args_of (gt x c) = compare x c
args_of (mark k) = name k
args_of (by k) = name k
args_of (neg f) = one f
args_of (before f) = one f
args_of (once f) = one f
args_of (always f) = one f
args_of (and f g) = two f g
args_of (or f g) = two f g
args_of (implies f g) = two f g
args_of (since f g) = two f g

abbrev make : ℕ → Args → Formula
make k (compare x c) = get_or (eq x c ∷ lt x c ∷ gt x c ∷ []) k (mark 0)
make k (name x) = get_or (mark x ∷ by x ∷ []) (k - 3) (mark 0)
make k (one f) = get_or (neg f ∷ before f ∷ once f ∷ always f ∷ []) (k - 5) (mark 0)
make k (two f g) = get_or (and f g ∷ or f g ∷ implies f g ∷ since f g ∷ []) (k - 9) (mark 0)

made : (f : Formula) → make (op_of f) (args_of f) ≡ f
made (eq x c) = refl
made (lt x c) = refl
made (gt x c) = refl
made (mark k) = refl
made (by k) = refl
made (neg f) = refl
made (before f) = refl
made (once f) = refl
made (always f) = refl
made (and f g) = refl
made (or f g) = refl
made (implies f g) = refl
made (since f g) = refl

abbrev op_words : List (List ℕ)
op_words =
    codes "eq" ∷ codes "lt" ∷ codes "gt" ∷ codes "mark" ∷ codes "by" ∷ codes "not" ∷ codes "before" ∷ codes "once" ∷ codes "always" ∷ codes "and" ∷ codes "or"
    ∷ codes "implies" ∷ codes "since" ∷ []

abbrev arity : Args → ℕ
arity (compare x c) = 0
arity (name k) = 1
arity (one f) = 2
arity (two f g) = 3

-- what stands behind the word and a blank
abbrev inner : Args → List Piece → List ℕ
inner (compare x c) p = decimal x ++ (32 ∷ (signed_decimal c ++ (41 ∷ flat p)))
inner (name k) p = decimal k ++ (41 ∷ flat p)
inner (one f) p = flat (formula f (closing ∷ p))
inner (two f g) p = flat (formula f (blank ∷ formula g (closing ∷ p)))

-- what is known of a formula with the number k
record Known (k : ℕ) (f : Formula) : Type 0 where
  solid : Solid (get_or op_words k [])
  found : find (get_or op_words k []) op_words ≡ k
  kind : arity (args_of f) ≡ get_or (0 ∷ 0 ∷ 0 ∷ 1 ∷ 1 ∷ 2 ∷ 2 ∷ 2 ∷ 2 ∷ 3 ∷ 3 ∷ 3 ∷ 3 ∷ []) k 0
  begins : (p : List Piece) → flat (formula f p) ≡ 40 ∷ (get_or op_words k [] ++ (32 ∷ inner (args_of f) p))

known : (f : Formula) → Known (op_of f) f
known (eq x c) = record { solid = solid_of (codes "eq") refl; found = refl; kind = refl; begins = λ p. refl }
known (lt x c) = record { solid = solid_of (codes "lt") refl; found = refl; kind = refl; begins = λ p. refl }
known (gt x c) = record { solid = solid_of (codes "gt") refl; found = refl; kind = refl; begins = λ p. refl }
known (mark k) = record { solid = solid_of (codes "mark") refl; found = refl; kind = refl; begins = λ p. refl }
known (by k) = record { solid = solid_of (codes "by") refl; found = refl; kind = refl; begins = λ p. refl }
known (neg f) = record { solid = solid_of (codes "not") refl; found = refl; kind = refl; begins = λ p. refl }
known (before f) = record { solid = solid_of (codes "before") refl; found = refl; kind = refl; begins = λ p. refl }
known (once f) = record { solid = solid_of (codes "once") refl; found = refl; kind = refl; begins = λ p. refl }
known (always f) = record { solid = solid_of (codes "always") refl; found = refl; kind = refl; begins = λ p. refl }
known (and f g) = record { solid = solid_of (codes "and") refl; found = refl; kind = refl; begins = λ p. refl }
known (or f g) = record { solid = solid_of (codes "or") refl; found = refl; kind = refl; begins = λ p. refl }
known (implies f g) = record { solid = solid_of (codes "implies") refl; found = refl; kind = refl; begins = λ p. refl }
known (since f g) = record { solid = solid_of (codes "since") refl; found = refl; kind = refl; begins = λ p. refl }

-- the numbers have ten digits, and the formulas inside are P
abbrev Under : (Formula → Type 0) → Args → Type 0
Under P (compare x c) = (x < 10 ^ 10) × TenDigits c
Under P (name k) = k < 10 ^ 10
Under P (one f) = P f
Under P (two f g) = P f × P g

abbrev Lower : ℕ → Formula → Type 0
Lower zero f = ⊥
Lower (suc d) f = Nests d f

under : (d : ℕ) (f : Formula) → Nests d f → Under (Lower d) (args_of f)
under d (eq x c) h = h
under d (lt x c) h = h
under d (gt x c) h = h
under d (mark k) h = h
under d (by k) h = h
under zero (neg f) h = h
under (suc d) (neg f) h = h
under zero (before f) h = h
under (suc d) (before f) h = h
under zero (once f) h = h
under (suc d) (once f) h = h
under zero (always f) h = h
under (suc d) (always f) h = h
under zero (and f g) h = absurd h
under (suc d) (and f g) h = h
under zero (or f g) h = absurd h
under (suc d) (or f g) h = h
under zero (implies f g) h = absurd h
under (suc d) (implies f g) h = h
under zero (since f g) h = absurd h
under (suc d) (since f g) h = h

-- formulas that are P and written alike are the same, whatever stands behind them
abbrev Apart : (Formula → Type 0) → Type 0
Apart P = (f g : Formula) (p q : List Piece) → P f → P g → flat (formula f p) ≡ flat (formula g q) → (f ≡ g) × (flat p ≡ flat q)

args_apart : (P : Formula → Type 0) → Apart P → (a b : Args) (p q : List Piece) → arity a ≡ arity b → Under P a → Under P b → inner a p ≡ inner b q → (a ≡ b) × (flat p ≡ flat q)
args_apart P ih (compare x c) (compare y d) p q k (hx, hc) (hy, hd) e =
    let r = number_then x y 32 32 (signed_decimal c ++ (41 ∷ flat p)) (signed_decimal d ++ (41 ∷ flat q)) hx hy (omega arith) (omega arith) e in
    let s = integer_then c d 41 41 (flat p) (flat q) hc hd (omega arith) (omega arith) r.2 in
    (ap (λ (z : ℕ). compare z c) r.0 ∙ ap (compare y) s.0, s.2)
args_apart P ih (name x) (name y) p q k hx hy e =
    let r = number_then x y 41 41 (flat p) (flat q) hx hy (omega arith) (omega arith) e in (ap name r.0, r.2)
args_apart P ih (one f) (one g) p q k hf hg e =
    let r = ih f g (closing ∷ p) (closing ∷ q) hf hg e in (ap one r.0, append_cancel_left (41 ∷ []) (flat p) (flat q) r.1)
args_apart P ih (two f g) (two i j) p q k (hf, hg) (hi, hj) e =
    let r = ih f i (blank ∷ formula g (closing ∷ p)) (blank ∷ formula j (closing ∷ q)) hf hi e in
    let s = ih g j (closing ∷ p) (closing ∷ q) hg hj (append_cancel_left (32 ∷ []) (flat (formula g (closing ∷ p))) (flat (formula j (closing ∷ q))) r.1) in
    (ap (λ (z : Formula). two z g) r.0 ∙ ap (two i) s.0, append_cancel_left (41 ∷ []) (flat p) (flat q) s.1)
args_apart P ih (compare x c) (name y) p q k hf hg e = absurd (omega arith)
args_apart P ih (compare x c) (one g) p q k hf hg e = absurd (omega arith)
args_apart P ih (compare x c) (two g h) p q k hf hg e = absurd (omega arith)
args_apart P ih (name x) (compare y d) p q k hf hg e = absurd (omega arith)
args_apart P ih (name x) (one g) p q k hf hg e = absurd (omega arith)
args_apart P ih (name x) (two g h) p q k hf hg e = absurd (omega arith)
args_apart P ih (one f) (compare y d) p q k hf hg e = absurd (omega arith)
args_apart P ih (one f) (name y) p q k hf hg e = absurd (omega arith)
args_apart P ih (one f) (two g h) p q k hf hg e = absurd (omega arith)
args_apart P ih (two f i) (compare y d) p q k hf hg e = absurd (omega arith)
args_apart P ih (two f i) (name y) p q k hf hg e = absurd (omega arith)
args_apart P ih (two f i) (one g) p q k hf hg e = absurd (omega arith)

step_apart : (P : Formula → Type 0) → Apart P → (f g : Formula) (p q : List Piece) → Under P (args_of f) → Under P (args_of g)
    → flat (formula f p) ≡ flat (formula g q) → (f ≡ g) × (flat p ≡ flat q)
step_apart P ih f g p q hf hg e =
    let kf = known f in
    let kg = known g in
    let w = split_off (get_or op_words (op_of f) []) (get_or op_words (op_of g) []) (inner (args_of f) p) (inner (args_of g) q) 32 32 kf.solid kg.solid (omega arith) (omega arith)
    (append_cancel_left (40 ∷ []) _ _ (sym (kf.begins p) ∙ e ∙ kg.begins q)) in
    let o : op_of f ≡ op_of g = sym kf.found ∙ ap (λ (x : List ℕ). find x op_words) w.0 ∙ kg.found in
    let a : arity (args_of f) ≡ arity (args_of g) =
    kf.kind ∙ ap (λ (k : ℕ). get_or (0 ∷ 0 ∷ 0 ∷ 1 ∷ 1 ∷ 2 ∷ 2 ∷ 2 ∷ 2 ∷ 3 ∷ 3 ∷ 3 ∷ 3 ∷ []) k 0) o ∙ sym kg.kind in
    let r = args_apart P ih (args_of f) (args_of g) p q a hf hg w.2 in
    (sym (made f) ∙ ap (λ (k : ℕ). make k (args_of f)) o ∙ ap (make (op_of g)) r.0 ∙ made g, r.1)

pub formulas_apart : (d : ℕ) → Apart (Nests d)
formulas_apart zero f g p q hf hg e = step_apart (Lower zero) (λ f g p q h k e. absurd h) f g p q (under zero f hf) (under zero g hg) e
formulas_apart (suc d) f g p q hf hg e = step_apart (Lower (suc d)) (formulas_apart d) f g p q (under (suc d) f hf) (under (suc d) g hg) e

pub one_rule : OneRule
one_rule f g hf hg e = (formulas_apart 15 f g [] [] hf hg e).0
