-- The codes of a table of subformulas: what one event makes of a code, and the code at the start.
use Rattle.std.specs.Prelude.{◌≡◌, ℕ, zero, suc, ◌^◌, ◌<◌, ◌≤◌, Bool, true, false, cond, not, ◌&&◌, ◌||◌, List, ℤ, pos, ◌==◌, int_lt, nat_lt, slice_index_or}
use Rattle.codes.specs.Codes.{bit_of, code_of}
use Rattle.events.specs.declared.event.Action.{Action}
use Rattle.formula.specs.declared.node.Node.{Node}
use Rattle.formula.specs.declared.node.Node.TheVariants.{Eq, Lt, Gt, Mark, By, Not, Before, Once, Always, And, Or, Implies, Since}
use Rattle.formula.specs.Table.{node_at}

abbrev pub eq_z : ℤ → ℤ → Bool
eq_z a b = not (int_lt a b) && not (int_lt b a)

-- a is a write of x
abbrev pub writes : Action → ℕ → Bool
writes a x = a.kind == 2 && a.subject == x

-- the comparison is true of the value; nothing else is
abbrev pub met : Node → ℤ → Bool
met (Eq x c) v = eq_z v c
met (Lt x c) v = int_lt v c
met (Gt x c) v = int_lt c v
met (Mark k) v = false
met (By t) v = false
met (Not f) v = false
met (Before f) v = false
met (Once f) v = false
met (Always f) v = false
met (And f g) v = false
met (Or f g) v = false
met (Implies f g) v = false
met (Since f g) v = false

-- The truth of subformula i after a, from the bits ahead of a and the bits of later subformulas after a. Bit 60 ahead of a says whether a is
-- not the first event; at the first no bit but those of comparisons counts.
abbrev pub truth : Node → ℕ → (ℕ → Bool) → (ℕ → Bool) → Action → Bool
truth (Eq x c) i old new a = cond (writes a x) (eq_z a.value c) (old i)
truth (Lt x c) i old new a = cond (writes a x) (int_lt a.value c) (old i)
truth (Gt x c) i old new a = cond (writes a x) (int_lt c a.value) (old i)
truth (Mark k) i old new a = a.kind == 0 && a.subject == k
truth (By t) i old new a = a.thread == t
truth (Not f) i old new a = not (new f)
truth (Before f) i old new a = old 60 && old f
truth (Once f) i old new a = new f || (old 60 && old i)
truth (Always f) i old new a = new f && (not (old 60) || old i)
truth (And f g) i old new a = new f && new g
truth (Or f g) i old new a = new f || new g
truth (Implies f g) i old new a = not (new f) || new g
truth (Since f g) i old new a = new g || (new f && (old 60 && old i))

-- The rule of a step from code c to code r, for a table of n: no bit of c counts but those below n, 60 and 61, and r has no others.
pub record Turn (nodes : List Node) (n c : ℕ) (a : Action) (r : ℕ) : Type 0 where
  pub fits : r < 2 ^ 62
  pub truths : (i : ℕ) → i < n → bit_of r i ≡ truth (node_at nodes i) i (bit_of c) (bit_of r) a
  pub clear : (i : ℕ) → n ≤ i → i < 60 → bit_of r i ≡ false
  pub later : bit_of r 60 ≡ true
  pub bad : bit_of r 61 ≡ (bit_of c 61 || not (bit_of r 0))

-- the truths after a, by at most k turns through the table
unfoldable pub eval : ℕ → List Node → (ℕ → Bool) → Action → ℕ → Bool
eval zero nodes old a i = false
eval (suc k) nodes old a i = truth (node_at nodes i) i old (eval k nodes old a) a

-- all bits after a, from the truths
unfoldable pub bits : ℕ → ℕ → (ℕ → Bool) → ℕ → Bool
bits n c t i = cond (nat_lt i n) (t i) (cond (i == 61) (bit_of c 61 || not (t 0)) (i == 60))

-- the one code that the rule allows
unfoldable pub stepped : List Node → ℕ → ℕ → Action → ℕ
stepped nodes n c a = code_of 62 (bits n c (eval n nodes (bit_of c) a))

-- at the start a comparison may be true, by the starting values, and nothing else
abbrev pub initial : List ℤ → Node → Bool
initial starts (Eq x c) = eq_z (slice_index_or starts x (pos 0)) c
initial starts (Lt x c) = int_lt (slice_index_or starts x (pos 0)) c
initial starts (Gt x c) = int_lt c (slice_index_or starts x (pos 0))
initial starts (Mark k) = false
initial starts (By t) = false
initial starts (Not f) = false
initial starts (Before f) = false
initial starts (Once f) = false
initial starts (Always f) = false
initial starts (And f g) = false
initial starts (Or f g) = false
initial starts (Implies f g) = false
initial starts (Since f g) = false

unfoldable pub started : List ℤ → List Node → ℕ → ℕ
started starts nodes n = code_of 62 (λ i. nat_lt i n && initial starts (node_at nodes i))
