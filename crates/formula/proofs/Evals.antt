-- The truths of a table after an event.
use Rattle.std.proofs.Common.{◌≡◌, ℕ, zero, suc, ◌+◌, ◌^◌, ◌<◌, ◌≤◌, Bool, true, false, not, ◌&&◌, ◌||◌, eqb, ltb, leb, ◌⊎◌, List, sym, refl, ap, ◌∙◌, inl, inr, arith}
use mathlib.Core.Bool.{or-false, and-true, and-false}
use lib.Bits.{bit_or}
use Rattle.std.proofs.lemmas.Bool.{ltb-true, and_parts, cases_order, lt-leb, le-leb, lt-ltb, eq-eqb, ne_eqb}
use Rattle.std.proofs.lemmas.Bool.Decides.{nat_tests}
use Rattle.codes.specs.Codes.{bit_of, code_of}
use Rattle.codes.proofs.Codes.{code_ext, code_none, or_code, only_code, bit_code}
use Rattle.events.specs.declared.event.Action.{Action}
use Rattle.formula.specs.declared.node.Node.{Node}
use Rattle.formula.specs.declared.node.Node.TheVariants.{Eq, Lt, Gt, Mark, By, Not, And, Or, Implies, Before, Once, Always, Since}
use Rattle.formula.specs.Table.{node_at, Inside, inside, between, Sound}
use Rattle.formula.specs.Step.{truth, eval}

between_parts : (i n f : ℕ) → between i n f ≡ true → (i < f) × (f < n)
between_parts i n f h =
    let p = and_parts (ltb i f) (ltb f n) h in
    (ltb-true i f p.0, ltb-true f n p.1)

both_parts : (i n f g : ℕ) → (between i n f && between i n g) ≡ true → (i < f) × (f < n) × (i < g) × (g < n)
both_parts i n f g h =
    let p = and_parts (between i n f) (between i n g) h in
    let a = between_parts i n f p.0 in
    let b = between_parts i n g p.1 in
    (a.0, a.1, b.0, b.1)

pub inside_parts : (v n i : ℕ) (node : Node) → inside v n i node ≡ true → Inside v n i node
inside_parts v n i (Eq x c) h = ltb-true x v h
inside_parts v n i (Lt x c) h = ltb-true x v h
inside_parts v n i (Gt x c) h = ltb-true x v h
inside_parts v n i (Mark k) h = tt
inside_parts v n i (By t) h = tt
inside_parts v n i (Not f) h = between_parts i n f h
inside_parts v n i (And f g) h = both_parts i n f g h
inside_parts v n i (Or f g) h = both_parts i n f g h
inside_parts v n i (Implies f g) h = both_parts i n f g h
inside_parts v n i (Before f) h = between_parts i n f h
inside_parts v n i (Once f) h = between_parts i n f h
inside_parts v n i (Always f) h = between_parts i n f h
inside_parts v n i (Since f g) h = both_parts i n f g h

-- what is inside stays so under wider bounds
pub inside_wider : (v w m n i j : ℕ) (node : Node) → v ≤ w → m ≤ n → j ≤ i → Inside v m i node → Inside w n j node
inside_wider v w m n i j (Eq x c) a b d h = omega arith
inside_wider v w m n i j (Lt x c) a b d h = omega arith
inside_wider v w m n i j (Gt x c) a b d h = omega arith
inside_wider v w m n i j (Mark k) a b d h = tt
inside_wider v w m n i j (By t) a b d h = tt
inside_wider v w m n i j (Not f) a b d h = (omega arith, omega arith)
inside_wider v w m n i j (And f g) a b d h = (omega arith, omega arith, omega arith, omega arith)
inside_wider v w m n i j (Or f g) a b d h = (omega arith, omega arith, omega arith, omega arith)
inside_wider v w m n i j (Implies f g) a b d h = (omega arith, omega arith, omega arith, omega arith)
inside_wider v w m n i j (Before f) a b d h = (omega arith, omega arith)
inside_wider v w m n i j (Once f) a b d h = (omega arith, omega arith)
inside_wider v w m n i j (Always f) a b d h = (omega arith, omega arith)
inside_wider v w m n i j (Since f g) a b d h = (omega arith, omega arith, omega arith, omega arith)

-- a truth hangs on the later subformulas alone
pub truth_ext : (v n i : ℕ) (node : Node) (old s t : ℕ → Bool) (e : Action) → Inside v n i node → ((k : ℕ) → i < k → k < n → s k ≡ t k)
    → truth node i old s e ≡ truth node i old t e
truth_ext v n i (Eq x c) old s t e h same = refl
truth_ext v n i (Lt x c) old s t e h same = refl
truth_ext v n i (Gt x c) old s t e h same = refl
truth_ext v n i (Mark k) old s t e h same = refl
truth_ext v n i (By k) old s t e h same = refl
truth_ext v n i (Not f) old s t e h same = ap not (same f h.0 h.1)
truth_ext v n i (And f g) old s t e h same = let a = same f h.0 h.1 in let b = same g h.2 h.3 in rw (a, b)
truth_ext v n i (Or f g) old s t e h same = let a = same f h.0 h.1 in let b = same g h.2 h.3 in rw (a, b)
truth_ext v n i (Implies f g) old s t e h same = let a = same f h.0 h.1 in let b = same g h.2 h.3 in rw (a, b)
truth_ext v n i (Before f) old s t e h same = refl
truth_ext v n i (Once f) old s t e h same = let a = same f h.0 h.1 in rw a
truth_ext v n i (Always f) old s t e h same = let a = same f h.0 h.1 in rw a
truth_ext v n i (Since f g) old s t e h same = let a = same f h.0 h.1 in let b = same g h.2 h.3 in rw (b, a)

eval_stable : (v n : ℕ) (nodes : List Node) → Sound v n nodes → (old : ℕ → Bool) (e : Action) (a b i : ℕ) → i < n → n ≤ i + a → n ≤ i + b
    → eval a nodes old e i ≡ eval b nodes old e i
unfolding eval
eval_stable v n nodes s old e zero b i h p q = absurd (omega arith)
eval_stable v n nodes s old e (suc a) zero i h p q = absurd (omega arith)
eval_stable v n nodes s old e (suc a) (suc b) i h p q =
    truth_ext v n i (node_at nodes i) old (eval a nodes old e) (eval b nodes old e) e (inside_parts v n i (node_at nodes i) (s i h))
    (λ k l m. eval_stable v n nodes s old e a b k m (omega arith) (omega arith))

-- the truths are what the rule says, each from the later ones
pub eval_fix : (v n : ℕ) (nodes : List Node) → Sound v n nodes → (old : ℕ → Bool) (e : Action) (i : ℕ) → i < n
    → eval n nodes old e i ≡ truth (node_at nodes i) i old (eval n nodes old e) e
unfolding eval
eval_fix v zero nodes s old e i h = absurd (omega arith)
eval_fix v (suc m) nodes s old e i h =
    truth_ext v (suc m) i (node_at nodes i) old (eval m nodes old e) (eval (suc m) nodes old e) e (inside_parts v (suc m) i (node_at nodes i) (s i h))
    (λ k l b. eval_stable v (suc m) nodes s old e m (suc m) k b (omega arith) (omega arith))

-- the bits from i on
abbrev pub from : ℕ → (ℕ → Bool) → ℕ → ℕ → Bool
from n t i k = leb i k && (ltb k n && t k)

pub from_none : (n : ℕ) (t : ℕ → Bool) → 0 ≡ code_of 62 (from n t n)
from_none n t = sym (code_ext 62 (from n t n) (λ _. false) (λ k l. grind (arith, nat_tests)) ∙ code_none 62)

-- at each bit: it is i, below i or above i
pub from_more : (n : ℕ) (t : ℕ → Bool) (i k : ℕ) → i < n → (from n t (i + 1) k || (eqb k i && t i)) ≡ from n t i k
from_more n t i k h = go (cases_order k i)
  where
    go : (k ≡ i) ⊎ ((k < i) ⊎ (i < k)) → (from n t (i + 1) k || (eqb k i && t i)) ≡ from n t i k
    go (inl e) =
        let a : leb (i + 1) k ≡ false = lt-leb (i + 1) k (omega arith) in
        let b : eqb k i ≡ true = eq-eqb k i e in
        let d : leb i k ≡ true = le-leb i k (omega arith) in
        let f : ltb k n ≡ true = lt-ltb k n (omega arith) in
        rw (a, b, d, f) (ap t (sym e))
    go (inr (inl l)) =
        let a : leb (i + 1) k ≡ false = lt-leb (i + 1) k (omega arith) in
        let b : eqb k i ≡ false = ne_eqb k i (λ e. omega arith) in
        let d : leb i k ≡ false = lt-leb i k (omega arith) in
        rw (a, b, d)
    go (inr (inr l)) =
        let a : leb (i + 1) k ≡ true = le-leb (i + 1) k (omega arith) in
        let b : eqb k i ≡ false = ne_eqb k i (λ e. omega arith) in
        let d : leb i k ≡ true = le-leb i k (omega arith) in
        rw (a, b, d) (or-false (ltb k n && t k))

pub from_yes : (n : ℕ) (t : ℕ → Bool) (i : ℕ) → i < n → n ≤ 60 → t i ≡ true
    → bit_or (code_of 62 (from n t (i + 1))) (2 ^ i) ≡ code_of 62 (from n t i)
from_yes n t i h few yes' =
    ap (bit_or (code_of 62 (from n t (i + 1)))) (only_code 62 i (omega arith))
    ∙ or_code 62 (from n t (i + 1)) (λ k. eqb k i)
    ∙ code_ext 62 (λ k. from n t (i + 1) k || eqb k i) (from n t i) (λ k l.
    ap (λ b. from n t (i + 1) k || b) (sym (and-true (eqb k i)) ∙ ap (λ b. eqb k i && b) (sym yes')) ∙ from_more n t i k h)

pub from_no : (n : ℕ) (t : ℕ → Bool) (i : ℕ) → i < n → t i ≡ false
    → code_of 62 (from n t (i + 1)) ≡ code_of 62 (from n t i)
from_no n t i h no' =
    code_ext 62 (from n t (i + 1)) (from n t i) (λ k l.
    sym (or-false (from n t (i + 1) k))
    ∙ ap (λ b. from n t (i + 1) k || b) (sym (and-false (eqb k i)) ∙ ap (λ b. eqb k i && b) (sym no')) ∙ from_more n t i k h)

-- what a turn of the loop reads of the bits from i + 1 on
pub from_truth : (v n : ℕ) (nodes : List Node) → Sound v n nodes → n ≤ 60 → (old : ℕ → Bool) (e : Action) (i : ℕ) → i < n
    → truth (node_at nodes i) i old (bit_of (code_of 62 (from n (eval n nodes old e) (i + 1)))) e ≡ eval n nodes old e i
from_truth v n nodes s few old e i h =
    let t = eval n nodes old e in
    truth_ext v n i (node_at nodes i) old (bit_of (code_of 62 (from n t (i + 1)))) t e (inside_parts v n i (node_at nodes i) (s i h)) (λ k l m.
    let a : leb (i + 1) k ≡ true = le-leb (i + 1) k (omega arith) in
    let b : ltb k n ≡ true = lt-ltb k n m in
    bit_code 62 (from n t (i + 1)) k (omega arith) ∙ rw (a, b))
    ∙ sym (eval_fix v n nodes s old e i h)

-- a turn of the loop at i, where the truths from k on are known, which is i + 1
module _ (v n : ℕ) (nodes : List Node) (s : Sound v n nodes) (few : n ≤ 60) (c : ℕ) (e : Action) (i k next : ℕ) (node : Node) (low : i < n) (behind : k ≡ i + 1) (here : node_at nodes i ≡ node)
    (inv : next ≡ code_of 62 (from n (eval n nodes (bit_of c) e) k)) where
  start : next ≡ code_of 62 (from n (eval n nodes (bit_of c) e) (i + 1))
  start = inv ∙ ap (λ x. code_of 62 (from n (eval n nodes (bit_of c) e) x)) behind

  told : truth node i (bit_of c) (bit_of next) e ≡ eval n nodes (bit_of c) e i
  told =
      ap (λ p. truth p i (bit_of c) (bit_of next) e) (sym here)
      ∙ ap (λ x. truth (node_at nodes i) i (bit_of c) (bit_of x) e) start
      ∙ from_truth v n nodes s few (bit_of c) e i low

  pub turn_yes : truth node i (bit_of c) (bit_of next) e ≡ true → bit_or next (2 ^ i) ≡ code_of 62 (from n (eval n nodes (bit_of c) e) i)
  turn_yes h = ap (λ x. bit_or x (2 ^ i)) start ∙ from_yes n (eval n nodes (bit_of c) e) i low few (sym told ∙ h)

  pub turn_no : truth node i (bit_of c) (bit_of next) e ≡ false → next ≡ code_of 62 (from n (eval n nodes (bit_of c) e) i)
  turn_no h = start ∙ from_no n (eval n nodes (bit_of c) e) i low (sym told ∙ h)
