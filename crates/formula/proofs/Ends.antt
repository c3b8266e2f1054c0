-- The whole code after an event, and at the start.
use Rattle.std.proofs.Common.{◌≡◌, ℕ, zero, suc, ◌+◌, ◌^◌, ◌<◌, ◌≤◌, Bool, true, false, cond, not, ◌&&◌, ◌||◌, eqb, ltb, leb, ◌⊎◌, List, take, ℤ, pos, sym, refl, ap, ◌∙◌, subst, inl, inr, arith, get_or-take}
use mathlib.Core.Bool.{or-false, and-true, and-false}
use lib.Bits.{bit_or}
use lib.Signed.{lt_z}
use Rattle.std.proofs.lemmas.Bool.{cases_lt, cases_order, le-leb, lt-ltb, le-ltb, eq-eqb, ne_eqb}
use Rattle.codes.specs.Codes.{bit_of, code_of}
use Rattle.codes.proofs.Codes.{code_lt, code_ext, code_none, code_bits, or_code, only_code, bit_code}
use Rattle.events.specs.declared.event.Action.{Action}
use Rattle.formula.specs.declared.node.Node.{Node}
use Rattle.formula.specs.declared.node.Node.TheVariants.{Eq, Lt, Gt, Mark, By, Not, Before, Once, Always, And, Or, Implies, Since}
use Rattle.formula.specs.Table.{node_at, Inside, Sound}
use Rattle.formula.specs.Step.{eval, bits, stepped, Turn, eq_z, initial}
use Rattle.formula.proofs.Evals.{from, inside_parts, truth_ext, eval_fix}

-- the flag: whether the code after the event is bad
abbrev pub flag : ℕ → (ℕ → Bool) → Bool
flag c t = bit_of c 61 || not (t 0)

bits_yes : (n c : ℕ) (t : ℕ → Bool) → n ≤ 60 → flag c t ≡ true → (k : ℕ) → ((from n t 0 k || eqb k 60) || eqb k 61) ≡ bits n c t k
unfolding bits
bits_yes n c t few f k = go (cases_lt k n)
  where
    zero_le' : leb 0 k ≡ true
    zero_le' = le-leb 0 k (omega arith)

    go : (k < n) ⊎ (n ≤ k) → ((from n t 0 k || eqb k 60) || eqb k 61) ≡ bits n c t k
    go (inl l) =
        let a : ltb k n ≡ true = lt-ltb k n l in
        let b : eqb k 60 ≡ false = ne_eqb k 60 (λ e. omega arith) in
        let d : eqb k 61 ≡ false = ne_eqb k 61 (λ e. omega arith) in
        rw (zero_le', a, b, d) (or-false (t k || false) ∙ or-false (t k))
    go (inr l) =
        let a : ltb k n ≡ false = le-ltb k n l in
        rw (zero_le', a, f) (last (eqb k 60) (eqb k 61))
      where
        last : (x y : Bool) → (x || y) ≡ cond y true x
        last true true = refl
        last true false = refl
        last false true = refl
        last false false = refl

bits_no : (n c : ℕ) (t : ℕ → Bool) → n ≤ 60 → flag c t ≡ false → (k : ℕ) → (from n t 0 k || eqb k 60) ≡ bits n c t k
unfolding bits
bits_no n c t few f k = go (cases_lt k n)
  where
    zero_le' : leb 0 k ≡ true
    zero_le' = le-leb 0 k (omega arith)

    last : (k ≡ 61) ⊎ ((k < 61) ⊎ (61 < k)) → eqb k 60 ≡ cond (eqb k 61) false (eqb k 60)
    last (inl e) =
        let a : eqb k 60 ≡ false = ne_eqb k 60 (λ e'. omega arith) in
        let b : eqb k 61 ≡ true = eq-eqb k 61 e in
        rw (a, b)
    last (inr (inl l)) = let b : eqb k 61 ≡ false = ne_eqb k 61 (λ e'. omega arith) in rw b
    last (inr (inr l)) = let b : eqb k 61 ≡ false = ne_eqb k 61 (λ e'. omega arith) in rw b

    go : (k < n) ⊎ (n ≤ k) → (from n t 0 k || eqb k 60) ≡ bits n c t k
    go (inl l) =
        let a : ltb k n ≡ true = lt-ltb k n l in
        let b : eqb k 60 ≡ false = ne_eqb k 60 (λ e. omega arith) in
        rw (zero_le', a, b) (or-false (t k))
    go (inr l) =
        let a : ltb k n ≡ false = le-ltb k n l in
        rw (zero_le', a, f) (last (cases_order k 61))

-- after the loop
module _ (n : ℕ) (nodes : List Node) (some : 0 < n) (few : n ≤ 60) (c : ℕ) (e : Action) (next : ℕ)
    (inv : next ≡ code_of 62 (from n (eval n nodes (bit_of c) e) 0)) where
  pub whole_first : bit_of next 0 ≡ eval n nodes (bit_of c) e 0
  whole_first =
      let t = eval n nodes (bit_of c) e in
      let a : ltb 0 n ≡ true = lt-ltb 0 n some in
      ap (λ x. bit_of x 0) inv ∙ bit_code 62 (from n t 0) 0 (omega arith) ∙ rw a

  with_60 : bit_or next (2 ^ 60) ≡ code_of 62 (λ k. from n (eval n nodes (bit_of c) e) 0 k || eqb k 60)
  with_60 =
      ap (λ x. bit_or x (2 ^ 60)) inv
      ∙ ap (bit_or (code_of 62 (from n (eval n nodes (bit_of c) e) 0))) (only_code 62 60 (omega arith))
      ∙ or_code 62 (from n (eval n nodes (bit_of c) e) 0) (λ k. eqb k 60)

  pub whole_yes : (bit_of c 61 || not (bit_of next 0)) ≡ true → bit_or (bit_or next (2 ^ 60)) (2 ^ 61) ≡ stepped nodes n c e
  unfolding stepped
  whole_yes h =
      let t = eval n nodes (bit_of c) e in
      ap (λ x. bit_or x (2 ^ 61)) with_60
      ∙ ap (bit_or (code_of 62 (λ k. from n t 0 k || eqb k 60))) (only_code 62 61 (omega arith))
      ∙ or_code 62 (λ k. from n t 0 k || eqb k 60) (λ k. eqb k 61)
      ∙ code_ext 62 (λ k. (from n t 0 k || eqb k 60) || eqb k 61) (bits n c t) (λ k l. bits_yes n c t few (ap (λ b. bit_of c 61 || not b) (sym whole_first) ∙ h) k)

  pub whole_no : (bit_of c 61 || not (bit_of next 0)) ≡ false → bit_or next (2 ^ 60) ≡ stepped nodes n c e
  unfolding stepped
  whole_no h =
      let t = eval n nodes (bit_of c) e in
      with_60
      ∙ code_ext 62 (λ k. from n t 0 k || eqb k 60) (bits n c t) (λ k l. bits_no n c t few (ap (λ b. bit_of c 61 || not b) (sym whole_first) ∙ h) k)

-- the step meets the rule
module _ (v n : ℕ) (nodes : List Node) (s : Sound v n nodes) (some : 0 < n) (few : n ≤ 60) (c : ℕ) (e : Action) where
  stepped_at : (k : ℕ) → k < n → bit_of (stepped nodes n c e) k ≡ eval n nodes (bit_of c) e k
  unfolding stepped bits
  stepped_at k h =
      let t = eval n nodes (bit_of c) e in
      let a : ltb k n ≡ true = lt-ltb k n h in
      bit_code 62 (bits n c t) k (omega arith) ∙ rw a

  stepped_over : (k : ℕ) → n ≤ k → k < 62 → bit_of (stepped nodes n c e) k ≡ cond (eqb k 61) (flag c (eval n nodes (bit_of c) e)) (eqb k 60)
  unfolding stepped bits
  stepped_over k h l =
      let t = eval n nodes (bit_of c) e in
      let a : ltb k n ≡ false = le-ltb k n h in
      bit_code 62 (bits n c t) k l ∙ rw a

  pub stepped_lt : stepped nodes n c e < 2 ^ 62
  unfolding stepped
  stepped_lt = code_lt 62 (bits n c (eval n nodes (bit_of c) e))

  pub stepped_turn : Turn nodes n c e (stepped nodes n c e)
  stepped_turn =
      let t = eval n nodes (bit_of c) e in
      record {
        fits = stepped_lt;
        truths = λ i h. stepped_at i h ∙ eval_fix v n nodes s (bit_of c) e i h
            ∙ truth_ext v n i (node_at nodes i) (bit_of c) t (bit_of (stepped nodes n c e)) e (inside_parts v n i (node_at nodes i) (s i h)) (λ k _ m. sym (stepped_at k m));
        clear = λ i h l.
            let a : eqb i 61 ≡ false = ne_eqb i 61 (λ e. omega arith) in
            let b : eqb i 60 ≡ false = ne_eqb i 60 (λ e. omega arith) in
            stepped_over i h (omega arith) ∙ rw (a, b);
        later = stepped_over 60 few (omega arith);
        bad = stepped_over 61 (omega arith) (omega arith) ∙ ap (λ b. bit_of c 61 || not b) (sym (stepped_at 0 some));
      }

-- what begins with the known starting values
pub initial_known : (v n i : ℕ) (starts : List ℤ) (node : Node) → Inside v n i node → initial (take v starts) node ≡ initial starts node
initial_known v n i starts (Eq x c) h = ap (λ z. eq_z z c) (get_or-take v starts x (pos 0) h)
initial_known v n i starts (Lt x c) h = ap (λ z. lt_z z c) (get_or-take v starts x (pos 0) h)
initial_known v n i starts (Gt x c) h = ap (λ z. lt_z c z) (get_or-take v starts x (pos 0) h)
initial_known v n i starts (Mark k) h = refl
initial_known v n i starts (By t) h = refl
initial_known v n i starts (Not f) h = refl
initial_known v n i starts (Before f) h = refl
initial_known v n i starts (Once f) h = refl
initial_known v n i starts (Always f) h = refl
initial_known v n i starts (And f g) h = refl
initial_known v n i starts (Or f g) h = refl
initial_known v n i starts (Implies f g) h = refl
initial_known v n i starts (Since f g) h = refl

-- the start, turn by turn
abbrev pub begun : List ℤ → List Node → ℕ → ℕ
begun starts nodes i = code_of 62 (λ k. ltb k i && initial starts (node_at nodes k))

pub begun_none : (starts : List ℤ) (nodes : List Node) → 0 ≡ begun starts nodes 0
begun_none starts nodes = sym (code_ext 62 (λ k. ltb k 0 && initial starts (node_at nodes k)) (λ _. false) (λ k l.
    let a : ltb k 0 ≡ false = le-ltb k 0 (omega arith) in rw a) ∙ code_none 62)

begun_more : (p : ℕ → Bool) (i k : ℕ) → ((ltb k i && p k) || (eqb k i && p i)) ≡ (ltb k (i + 1) && p k)
begun_more p i k = go (cases_order k i)
  where
    go : (k ≡ i) ⊎ ((k < i) ⊎ (i < k)) → ((ltb k i && p k) || (eqb k i && p i)) ≡ (ltb k (i + 1) && p k)
    go (inl e) =
        let a : ltb k i ≡ false = le-ltb k i (omega arith) in
        let b : eqb k i ≡ true = eq-eqb k i e in
        let d : ltb k (i + 1) ≡ true = lt-ltb k (i + 1) (omega arith) in
        rw (a, b, d) (ap p (sym e))
    go (inr (inl l)) =
        let a : ltb k i ≡ true = lt-ltb k i l in
        let b : eqb k i ≡ false = ne_eqb k i (λ e. omega arith) in
        let d : ltb k (i + 1) ≡ true = lt-ltb k (i + 1) (omega arith) in
        rw (a, b, d) (or-false (p k))
    go (inr (inr l)) =
        let a : ltb k i ≡ false = le-ltb k i (omega arith) in
        let b : eqb k i ≡ false = ne_eqb k i (λ e. omega arith) in
        let d : ltb k (i + 1) ≡ false = le-ltb k (i + 1) (omega arith) in
        rw (a, b, d)

pub begun_yes : (starts : List ℤ) (nodes : List Node) (i : ℕ) → i < 62 → initial starts (node_at nodes i) ≡ true → bit_or (begun starts nodes i) (2 ^ i) ≡ begun starts nodes (i + 1)
begun_yes starts nodes i h y =
    let p : ℕ → Bool = λ k. initial starts (node_at nodes k) in
    ap (bit_or (begun starts nodes i)) (only_code 62 i h)
    ∙ or_code 62 (λ k. ltb k i && p k) (λ k. eqb k i)
    ∙ code_ext 62 (λ k. (ltb k i && p k) || eqb k i) (λ k. ltb k (i + 1) && p k) (λ k l.
    ap (λ b. (ltb k i && p k) || b) (sym (and-true (eqb k i)) ∙ ap (λ b. eqb k i && b) (sym y)) ∙ begun_more p i k)

pub begun_no : (starts : List ℤ) (nodes : List Node) (i : ℕ) → initial starts (node_at nodes i) ≡ false → begun starts nodes i ≡ begun starts nodes (i + 1)
begun_no starts nodes i y =
    let p : ℕ → Bool = λ k. initial starts (node_at nodes k) in
    code_ext 62 (λ k. ltb k i && p k) (λ k. ltb k (i + 1) && p k) (λ k l.
    sym (or-false (ltb k i && p k)) ∙ ap (λ b. (ltb k i && p k) || b) (sym (and-false (eqb k i)) ∙ ap (λ b. eqb k i && b) (sym y)) ∙ begun_more p i k)

-- the rule leaves no choice
module _ (v n : ℕ) (nodes : List Node) (s : Sound v n nodes) (some : 0 < n) (c : ℕ) (e : Action) (q r : ℕ) (a : Turn nodes n c e q) (b : Turn nodes n c e r) where
  same_truths : (k i : ℕ) → i < n → n ≤ i + k → bit_of q i ≡ bit_of r i
  same_truths zero i h l = absurd (omega arith)
  same_truths (suc k) i h l =
      a.truths i h
      ∙ truth_ext v n i (node_at nodes i) (bit_of c) (bit_of q) (bit_of r) e (inside_parts v n i (node_at nodes i) (s i h)) (λ j m u. same_truths k j u (omega arith))
      ∙ sym (b.truths i h)

  same_bits : (i : ℕ) → i < 62 → bit_of q i ≡ bit_of r i
  same_bits i h = go (cases_lt i n) (cases_order i 60)
    where
      go : (i < n) ⊎ (n ≤ i) → (i ≡ 60) ⊎ ((i < 60) ⊎ (60 < i)) → bit_of q i ≡ bit_of r i
      go (inl l) _ = same_truths n i l (omega arith)
      go (inr l) (inl same) = ap (bit_of q) same ∙ a.later ∙ sym b.later ∙ ap (bit_of r) (sym same)
      go (inr l) (inr (inl m)) = a.clear i l m ∙ sym (b.clear i l m)
      go (inr l) (inr (inr m)) =
          let top : i ≡ 61 = omega arith in
          ap (bit_of q) top ∙ a.bad ∙ ap (λ x. bit_of c 61 || not x) (same_truths n 0 some (omega arith)) ∙ sym b.bad ∙ ap (bit_of r) (sym top)

  pub turn_one : q ≡ r
  turn_one = code_bits 62 q a.fits ∙ code_ext 62 (bit_of q) (bit_of r) same_bits ∙ sym (code_bits 62 r b.fits)

-- a code that is what the step computes is the one that the rule allows
pub settled : (v n : ℕ) (nodes : List Node) → Sound v n nodes → 0 < n → n ≤ 60 → (c : ℕ) (e : Action) (r : ℕ) → r ≡ stepped nodes n c e
    → Turn nodes n c e r × ((q : ℕ) → Turn nodes n c e q → q ≡ r)
settled v n nodes s some few c e r h =
    let rule = subst (Turn nodes n c e) (sym h) (stepped_turn v n nodes s some few c e) in
    (rule, λ q t. turn_one v n nodes s some c e q r t rule)
