-- Tables made word by word, from the last to the first.
use Rattle.std.proofs.Common.{◌≡◌, ℕ, ◌+◌, ◌<◌, ◌≤◌, ◌≢◌, List, length, get_or, set, sym, refl, ap, ◌∙◌, subst, ⊎_elim, arith, get_or-set_other, get_or-set_same}
use Rattle.std.proofs.lemmas.Bool.{cases_lt}
use Rattle.formula.specs.declared.node.Node.{Node}
use Rattle.formula.specs.declared.node.Node.TheVariants.{Eq, Lt, Gt, Mark, By, Not, And, Or, Implies, Before, Once, Always, Since}
use Rattle.formula.specs.declared.word.Word.{Word}
use Rattle.formula.specs.declared.word.Word.TheVariants.{Eq as EqW, Lt as LtW, Gt as GtW, Mark as MarkW, By as ByW, Not as NotW, And as AndW, Or as OrW, Implies as ImpliesW, Before as BeforeW, Once as OnceW, Always as AlwaysW, Since as SinceW}
use Rattle.grammar.specs.Recording.{Formula, eq, lt, gt, mark, by, neg, before, once, always, and, or, implies, since}
use Rattle.formula.specs.Truth.{size}
use Rattle.formula.specs.Table.{node_at, no_node}
use Rattle.formula.specs.Table.{Numbered}
use Rattle.formula.specs.Words.{word_at, Spells, Placing, Leaf, One, Two}

-- a formula is spelt from k on, and the table has it
pub record Good (ws : List Word) (n : ℕ) (nodes : List Node) (ends : List ℕ) (k : ℕ) : Type 0 where
  pub form : Formula
  pub spelt : Spells ws k form
  pub numbered : Numbered nodes k form
  pub ends_at : get_or ends k 0 ≡ k + size form
  pub inside_all : k + size form ≤ n

-- an earlier write leaves it
kept_op : (nodes : List Node) (i k : ℕ) (o p : Node) → i < k → node_at nodes k ≡ p → node_at (set nodes i o) k ≡ p
kept_op nodes i k o p h e = let ne : k ≢ i = λ same. omega arith in get_or-set_other nodes i k o no_node ne ∙ e

kept : (nodes : List Node) (i k : ℕ) (o : Node) (f : Formula) → i < k → Numbered nodes k f → Numbered (set nodes i o) k f
kept nodes i k o (eq x c) h t = kept_op nodes i k o (Eq x c) h t
kept nodes i k o (lt x c) h t = kept_op nodes i k o (Lt x c) h t
kept nodes i k o (gt x c) h t = kept_op nodes i k o (Gt x c) h t
kept nodes i k o (mark m) h t = kept_op nodes i k o (Mark m) h t
kept nodes i k o (by m) h t = kept_op nodes i k o (By m) h t
kept nodes i k o (neg f) h t = (kept_op nodes i k o (Not (k + 1)) h t.0, kept nodes i (k + 1) o f (omega arith) t.1)
kept nodes i k o (and f g) h t = (kept_op nodes i k o (And (k + 1) (k + 1 + size f)) h t.0, kept nodes i (k + 1) o f (omega arith) t.1, kept nodes i (k + 1 + size f) o g (omega arith) t.2)
kept nodes i k o (or f g) h t = (kept_op nodes i k o (Or (k + 1) (k + 1 + size f)) h t.0, kept nodes i (k + 1) o f (omega arith) t.1, kept nodes i (k + 1 + size f) o g (omega arith) t.2)
kept nodes i k o (implies f g) h t = (kept_op nodes i k o (Implies (k + 1) (k + 1 + size f)) h t.0, kept nodes i (k + 1) o f (omega arith) t.1, kept nodes i (k + 1 + size f) o g (omega arith) t.2)
kept nodes i k o (before f) h t = (kept_op nodes i k o (Before (k + 1)) h t.0, kept nodes i (k + 1) o f (omega arith) t.1)
kept nodes i k o (once f) h t = (kept_op nodes i k o (Once (k + 1)) h t.0, kept nodes i (k + 1) o f (omega arith) t.1)
kept nodes i k o (always f) h t = (kept_op nodes i k o (Always (k + 1)) h t.0, kept nodes i (k + 1) o f (omega arith) t.1)
kept nodes i k o (since f g) h t = (kept_op nodes i k o (Since (k + 1) (k + 1 + size f)) h t.0, kept nodes i (k + 1) o f (omega arith) t.1, kept nodes i (k + 1 + size f) o g (omega arith) t.2)

module _ (ws : List Word) (n : ℕ) (nodes : List Node) (ends : List ℕ) (i : ℕ) (node : Node) (end : ℕ) (low : i < n) (room : i < length nodes) (room' : i < length ends)
    (later : (k : ℕ) → i < k → k < n → Good ws n nodes ends k) where
  here_op : node_at (set nodes i node) i ≡ node
  here_op = get_or-set_same nodes i node no_node room

  here_end : get_or (set ends i end) i 0 ≡ end
  here_end = get_or-set_same ends i end 0 room'

  leaf : (f : Formula) (o : Node) → size f ≡ 1 → Spells ws i f → (node_at (set nodes i node) i ≡ o → Numbered (set nodes i node) i f) → Leaf i o node end → Good ws n (set nodes i node) (set ends i end) i
  leaf f o one' s t p =
      record { form = f; spelt = s; numbered = t (here_op ∙ p.0); ends_at = here_end ∙ p.1 ∙ ap (λ x. i + x) (sym one'); inside_all = omega (arith, one') }

  unary : (con : Formula → Formula) (o : ℕ → Node) → ((f : Formula) → size (con f) ≡ 1 + size f)
      → ((f : Formula) → Spells ws (i + 1) f → Spells ws i (con f))
      → ((f : Formula) → node_at (set nodes i node) i ≡ o (i + 1) → Numbered (set nodes i node) (i + 1) f → Numbered (set nodes i node) i (con f))
      → One i n ends o node end → Good ws n (set nodes i node) (set ends i end) i
  unary con o sz sp nu p =
      let a = later (i + 1) (omega arith) p.0 in
      record {
        form = con a.form;
        spelt = sp a.form a.spelt;
        numbered = nu a.form (here_op ∙ p.1) (kept nodes i (i + 1) node a.form (omega arith) a.numbered);
        ends_at = here_end ∙ p.2 ∙ omega (arith, sz a.form, a.ends_at);
        inside_all = omega (arith, sz a.form, a.inside_all);
      }

  binary : (con : Formula → Formula → Formula) (o : ℕ → ℕ → Node) → ((f g : Formula) → size (con f g) ≡ 1 + (size f + size g))
      → ((f g : Formula) → Spells ws (i + 1) f → Spells ws (i + 1 + size f) g → Spells ws i (con f g))
      → ((f g : Formula) → node_at (set nodes i node) i ≡ o (i + 1) (i + 1 + size f) → Numbered (set nodes i node) (i + 1) f → Numbered (set nodes i node) (i + 1 + size f) g → Numbered (set nodes i node) i (con f g))
      → Two i n ends o node end → Good ws n (set nodes i node) (set ends i end) i
  binary con o sz sp nu p =
      let a = later (i + 1) (omega arith) p.0 in
      let mid : get_or ends (i + 1) 0 ≡ i + 1 + size a.form = a.ends_at in
      let b : Good ws n nodes ends (i + 1 + size a.form) = later (i + 1 + size a.form) (omega arith) (omega (arith, mid, p.1)) in
      record {
        form = con a.form b.form;
        spelt = sp a.form b.form a.spelt b.spelt;
        numbered = nu a.form b.form (here_op ∙ p.2 ∙ ap (o (i + 1)) mid)
            (kept nodes i (i + 1) node a.form (omega arith) a.numbered)
            (kept nodes i (i + 1 + size a.form) node b.form (omega arith) b.numbered);
        ends_at = here_end ∙ p.3 ∙ ap (λ x. get_or ends x 0) mid ∙ omega (arith, sz a.form b.form, b.ends_at);
        inside_all = omega (arith, sz a.form b.form, b.inside_all);
      }

  here : (w : Word) → word_at ws i ≡ w → Placing i n ends w node end → Good ws n (set nodes i node) (set ends i end) i
  here (EqW x c) e p = leaf (eq x c) (Eq x c) refl e (λ t. t) p
  here (LtW x c) e p = leaf (lt x c) (Lt x c) refl e (λ t. t) p
  here (GtW x c) e p = leaf (gt x c) (Gt x c) refl e (λ t. t) p
  here (MarkW k) e p = leaf (mark k) (Mark k) refl e (λ t. t) p
  here (ByW k) e p = leaf (by k) (By k) refl e (λ t. t) p
  here NotW e p = unary neg Not (λ f. refl) (λ f s. (e, s)) (λ f t s. (t, s)) p
  here AndW e p = binary and And (λ f g. refl) (λ f g s r. (e, s, r)) (λ f g t s r. (t, s, r)) p
  here OrW e p = binary or Or (λ f g. refl) (λ f g s r. (e, s, r)) (λ f g t s r. (t, s, r)) p
  here ImpliesW e p = binary implies Implies (λ f g. refl) (λ f g s r. (e, s, r)) (λ f g t s r. (t, s, r)) p
  here BeforeW e p = unary before Before (λ f. refl) (λ f s. (e, s)) (λ f t s. (t, s)) p
  here OnceW e p = unary once Once (λ f. refl) (λ f s. (e, s)) (λ f t s. (t, s)) p
  here AlwaysW e p = unary always Always (λ f. refl) (λ f s. (e, s)) (λ f t s. (t, s)) p
  here SinceW e p = binary since Since (λ f g. refl) (λ f g s r. (e, s, r)) (λ f g t s r. (t, s, r)) p

  pub more : Placing i n ends (word_at ws i) node end → (k : ℕ) → i ≤ k → k < n → Good ws n (set nodes i node) (set ends i end) k
  more p k l u =
      ⊎_elim
      (λ h.
      let g = later k h u in
      let ne : k ≢ i = λ same. omega arith in
      record {
        form = g.form;
        spelt = g.spelt;
        numbered = kept nodes i k node g.form h g.numbered;
        ends_at = get_or-set_other ends i k end 0 ne ∙ g.ends_at;
        inside_all = g.inside_all;
      })
      (λ h. let same : i ≡ k = omega arith in subst (Good ws n (set nodes i node) (set ends i end)) same (here (word_at ws i) refl p))
      (cases_lt i k)
