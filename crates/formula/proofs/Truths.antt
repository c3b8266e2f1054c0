-- The codes of a run, and the truths that their bits are.
use Rattle.std.proofs.Common.{◌≡◌, ℕ, zero, suc, ◌+◌, ◌-◌, ◌<◌, ◌≤◌, Bool, true, false, cond, not, ◌&&◌, ◌||◌, eqb, ltb, List, get_or, ℤ, pos, ◌<ℤ◌, Decides, sym, refl, ap, ◌∙◌, subst, arith}
use mathlib.Core.Bool.{or-false, or_comm, and-true, and-false}
use lib.Signed.{lt_z}
use Rattle.std.proofs.lemmas.Bool.{false≢true, lt-ltb, le-ltb}
use Rattle.std.proofs.lemmas.Bool.Decides.{Decides-at, Decides-like, Decides-not, Decides-and, Decides-or, Decides-eqb}
use Rattle.codes.specs.Codes.{bit_of}
use Rattle.codes.proofs.Codes.{bit_code}
use Rattle.events.specs.declared.event.Action.{Action}
use Rattle.formula.specs.declared.node.Node.{Node}
use Rattle.formula.specs.declared.node.Node.TheVariants.{Eq, Lt, Gt, Mark, By, Not, And, Or, Implies, Before, Once, Always, Since}
use Rattle.formula.specs.Table.{node_at, Sound}
use Rattle.formula.specs.Step.{truth, initial, eq_z, writes, stepped, started, Turn}
use Rattle.grammar.specs.Recording.{Formula, eq, lt, gt, mark, by, neg, before, once, always, and, or, implies, since}
use Rattle.formula.specs.Truth.{action_at, Holds, size}
use Rattle.formula.specs.Table.{Numbered}
use Rattle.formula.proofs.Ends.{stepped_turn}
use Rattle.formula.proofs.Tempo.{decides_implies, decides_once, decides_always, decides_since}
use Rattle.formula.proofs.Values.{valued, decides_value, decides_eq_z, decides_lt_z}

unfoldable pub codes : List ℤ → List Node → ℕ → List Action → ℕ → ℕ
codes starts nodes n run zero = started starts nodes n
codes starts nodes n run (suc k) = stepped nodes n (codes starts nodes n run k) (action_at run (suc k))

pub size_pos : (f : Formula) → 1 ≤ size f
size_pos (eq x c) = omega arith
size_pos (lt x c) = omega arith
size_pos (gt x c) = omega arith
size_pos (mark k) = omega arith
size_pos (by t) = omega arith
size_pos (neg f) = omega arith
size_pos (and f g) = omega arith
size_pos (or f g) = omega arith
size_pos (implies f g) = omega arith
size_pos (before f) = omega arith
size_pos (once f) = omega arith
size_pos (always f) = omega arith
size_pos (since f g) = omega arith

module _ (starts : List ℤ) (nodes : List Node) (v n : ℕ) (sound : Sound v n nodes) (some : 0 < n) (few : n ≤ 60) (run : List Action) where
  turn : (k : ℕ) → Turn nodes n (codes starts nodes n run k) (action_at run (suc k)) (codes starts nodes n run (suc k))
  unfolding codes
  turn k = stepped_turn v n nodes sound some few (codes starts nodes n run k) (action_at run (suc k))

  begin : (i : ℕ) → i < n → bit_of (codes starts nodes n run 0) i ≡ initial starts (node_at nodes i)
  unfolding codes started
  begin i h =
      let a : ltb i n ≡ true = lt-ltb i n h in
      bit_code 62 (λ j. ltb j n && initial starts (node_at nodes j)) i (omega arith) ∙ rw a

  pub begin_over : (i : ℕ) → n ≤ i → i < 62 → bit_of (codes starts nodes n run 0) i ≡ false
  unfolding codes started
  begin_over i h l =
      let a : ltb i n ≡ false = le-ltb i n h in
      bit_code 62 (λ j. ltb j n && initial starts (node_at nodes j)) i l ∙ rw a

  -- a subformula's bit after an event, by its rule
  at : (i k : ℕ) (o : Node) → i < n → node_at nodes i ≡ o
      → bit_of (codes starts nodes n run (suc k)) i ≡ truth o i (bit_of (codes starts nodes n run k)) (bit_of (codes starts nodes n run (suc k))) (action_at run (suc k))
  at i k o h e =
      (turn k).truths i h ∙ ap (λ p. truth p i (bit_of (codes starts nodes n run k)) (bit_of (codes starts nodes n run (suc k))) (action_at run (suc k))) e

  -- a comparison's bit is its test of the current value
  compared : (test : ℤ → Bool) (i x : ℕ) → bit_of (codes starts nodes n run 0) i ≡ test (get_or starts x (pos 0))
      → ((k : ℕ) → bit_of (codes starts nodes n run (suc k)) i ≡ cond (writes (action_at run (suc k)) x) (test (action_at run (suc k)).value) (bit_of (codes starts nodes n run k) i))
      → (k : ℕ) → bit_of (codes starts nodes n run k) i ≡ test (valued starts run x k)
  unfolding valued
  compared test i x z s zero = z
  compared test i x z s (suc k) =
      s k ∙ ap (λ b. cond (writes (action_at run (suc k)) x) (test (action_at run (suc k)).value) b) (compared test i x z s k)
      ∙ push (writes (action_at run (suc k)) x)
    where
      push : (b : Bool) → cond b (test (action_at run (suc k)).value) (test (valued starts run x k)) ≡ test (cond b (action_at run (suc k)).value (valued starts run x k))
      push true = refl
      push false = refl

  first_clear : bit_of (codes starts nodes n run 0) 60 ≡ false
  first_clear = begin_over 60 few (omega arith)

  later_set : (k : ℕ) → bit_of (codes starts nodes n run (suc k)) 60 ≡ true
  later_set k = (turn k).later

  pub holds_at : (g : Formula) (i : ℕ) → i + size g ≤ n → Numbered nodes i g → (k : ℕ)
      → Decides (bit_of (codes starts nodes n run (suc k)) i) (Holds starts run g (suc k))
  holds_at (eq x c) i h t k =
      Decides-at _ (eq_z (valued starts run x (suc k)) c)
      (compared (λ z. eq_z z c) i x (begin i (omega arith) ∙ ap (initial starts) t) (λ j. at i j (Eq x c) (omega arith) t) (suc k))
      (decides_value starts run x (suc k) _ (λ z. z ≡ c) (decides_eq_z (valued starts run x (suc k)) c))
  holds_at (lt x c) i h t k =
      Decides-at _ (lt_z (valued starts run x (suc k)) c)
      (compared (λ z. lt_z z c) i x (begin i (omega arith) ∙ ap (initial starts) t) (λ j. at i j (Lt x c) (omega arith) t) (suc k))
      (decides_value starts run x (suc k) _ (λ z. z <ℤ c) (decides_lt_z (valued starts run x (suc k)) c))
  holds_at (gt x c) i h t k =
      Decides-at _ (lt_z c (valued starts run x (suc k)))
      (compared (λ z. lt_z c z) i x (begin i (omega arith) ∙ ap (initial starts) t) (λ j. at i j (Gt x c) (omega arith) t) (suc k))
      (decides_value starts run x (suc k) _ (λ z. c <ℤ z) (decides_lt_z c (valued starts run x (suc k))))
  holds_at (mark m) i h t k =
      Decides-at _ _ (at i k (Mark m) (omega arith) t)
      (Decides-and (eqb (action_at run (suc k)).kind 0) (eqb (action_at run (suc k)).subject m) (Decides-eqb (action_at run (suc k)).kind 0) (Decides-eqb (action_at run (suc k)).subject m))
  holds_at (by m) i h t k =
      Decides-at _ _ (at i k (By m) (omega arith) t) (Decides-eqb (action_at run (suc k)).thread m)
  holds_at (neg f) i h t k =
      Decides-at _ _ (at i k (Not (i + 1)) (omega arith) t.0) (Decides-not _ (holds_at f (i + 1) (omega arith) t.1 k))
  holds_at (and f g) i h t k =
      Decides-at _ _ (at i k (And (i + 1) (i + 1 + size f)) (omega arith) t.0)
      (Decides-and _ _ (holds_at f (i + 1) (omega arith) t.1 k) (holds_at g (i + 1 + size f) (omega arith) t.2 k))
  holds_at (or f g) i h t k =
      Decides-at _ _ (at i k (Or (i + 1) (i + 1 + size f)) (omega arith) t.0)
      (Decides-or _ _ (holds_at f (i + 1) (omega arith) t.1 k) (holds_at g (i + 1 + size f) (omega arith) t.2 k))
  holds_at (implies f g) i h t k =
      Decides-at _ _ (at i k (Implies (i + 1) (i + 1 + size f)) (omega arith) t.0)
      (decides_implies _ _ (holds_at f (i + 1) (omega arith) t.1 k) (holds_at g (i + 1 + size f) (omega arith) t.2 k))
  holds_at (before f) i h t zero =
      let no-first : bit_of (codes starts nodes n run 1) i ≡ false = at i 0 (Before (i + 1)) (omega arith) t.0 ∙ ap (λ b. b && bit_of (codes starts nodes n run 0) (i + 1)) first_clear in
      (λ y. absurd (false≢true (sym no-first ∙ y)), λ p. absurd (omega (arith, p.0)))
  holds_at (before f) i h t (suc k) =
      let was : bit_of (codes starts nodes n run (suc (suc k))) i ≡ bit_of (codes starts nodes n run (suc k)) (i + 1) =
      at i (suc k) (Before (i + 1)) (omega arith) t.0 ∙ ap (λ b. b && bit_of (codes starts nodes n run (suc k)) (i + 1)) (later_set k) in
      let back : suc (suc k) - 1 ≡ suc k = omega arith in
      Decides-at _ _ was (Decides-like _
      (λ p. (omega arith, subst (Holds starts run f) (sym back) p))
      (λ q. subst (Holds starts run f) back q.1)
      (holds_at f (i + 1) (omega arith) t.1 k))
  holds_at (once f) i h t k =
      decides_once (Holds starts run f) (λ j. bit_of (codes starts nodes n run (suc j)) (i + 1)) (λ j. bit_of (codes starts nodes n run (suc j)) i)
      (λ j. holds_at f (i + 1) (omega arith) t.1 j)
      (at i 0 (Once (i + 1)) (omega arith) t.0
      ∙ ap (λ b. bit_of (codes starts nodes n run 1) (i + 1) || (b && bit_of (codes starts nodes n run 0) i)) first_clear
      ∙ or-false (bit_of (codes starts nodes n run 1) (i + 1)))
      (λ j. at i (suc j) (Once (i + 1)) (omega arith) t.0
      ∙ ap (λ b. bit_of (codes starts nodes n run (suc (suc j))) (i + 1) || (b && bit_of (codes starts nodes n run (suc j)) i)) (later_set j))
      k
  holds_at (always f) i h t k =
      decides_always (Holds starts run f) (λ j. bit_of (codes starts nodes n run (suc j)) (i + 1)) (λ j. bit_of (codes starts nodes n run (suc j)) i)
      (λ j. holds_at f (i + 1) (omega arith) t.1 j)
      (at i 0 (Always (i + 1)) (omega arith) t.0
      ∙ ap (λ b. bit_of (codes starts nodes n run 1) (i + 1) && (not b || bit_of (codes starts nodes n run 0) i)) first_clear
      ∙ and-true (bit_of (codes starts nodes n run 1) (i + 1)))
      (λ j. at i (suc j) (Always (i + 1)) (omega arith) t.0
      ∙ ap (λ b. bit_of (codes starts nodes n run (suc (suc j))) (i + 1) && (not b || bit_of (codes starts nodes n run (suc j)) i)) (later_set j))
      k
  holds_at (since f g) i h t k =
      decides_since (Holds starts run f) (Holds starts run g) (λ j. bit_of (codes starts nodes n run (suc j)) (i + 1)) (λ j. bit_of (codes starts nodes n run (suc j)) (i + 1 + size f))
      (λ j. bit_of (codes starts nodes n run (suc j)) i)
      (λ j. holds_at f (i + 1) (omega arith) t.1 j)
      (λ j. holds_at g (i + 1 + size f) (omega arith) t.2 j)
      (at i 0 (Since (i + 1) (i + 1 + size f)) (omega arith) t.0
      ∙ ap (λ b. bit_of (codes starts nodes n run 1) (i + 1 + size f) || (bit_of (codes starts nodes n run 1) (i + 1) && (b && bit_of (codes starts nodes n run 0) i))) first_clear
      ∙ ap (λ b. bit_of (codes starts nodes n run 1) (i + 1 + size f) || b) (and-false (bit_of (codes starts nodes n run 1) (i + 1)))
      ∙ or-false (bit_of (codes starts nodes n run 1) (i + 1 + size f)))
      (λ j. at i (suc j) (Since (i + 1) (i + 1 + size f)) (omega arith) t.0
      ∙ ap (λ b. bit_of (codes starts nodes n run (suc (suc j))) (i + 1 + size f) || (bit_of (codes starts nodes n run (suc (suc j))) (i + 1) && (b && bit_of (codes starts nodes n run (suc j)) i))) (later_set j))
      k

  -- the flag is set just where the whole formula was false
  pub flag_at : (f : Formula) → size f ≤ n → Numbered nodes 0 f → (k : ℕ)
      → Decides (bit_of (codes starts nodes n run (suc k)) 61) ((m : ℕ) × (1 ≤ m) × (m ≤ suc k) × (Holds starts run f m → ⊥))
  flag_at f h t k =
      decides_once (λ m. Holds starts run f m → ⊥) (λ j. not (bit_of (codes starts nodes n run (suc j)) 0)) (λ j. bit_of (codes starts nodes n run (suc j)) 61)
      (λ j. Decides-not _ (holds_at f 0 (omega arith) t j))
      ((turn 0).bad ∙ ap (λ b. b || not (bit_of (codes starts nodes n run 1) 0)) (begin_over 61 (omega arith) (omega arith)))
      (λ j. (turn (suc j)).bad ∙ or_comm (bit_of (codes starts nodes n run (suc j)) 61) (not (bit_of (codes starts nodes n run (suc (suc j))) 0)))
      k
