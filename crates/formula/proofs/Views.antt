-- One row of words spells one formula at most.
use Rattle.std.proofs.Common.{◌≡◌, ℕ, zero, suc, ◌+◌, ◌<◌, ◌≤◌, ◌⊎◌, List, length, get_or, sym, refl, ap, ◌∙◌, subst, inl, inr, ⊎_elim, arith}
use Rattle.std.proofs.lemmas.Bool.{cases_lt}
use Rattle.formula.specs.declared.node.Node.{Node}
use Rattle.formula.specs.declared.word.Word.{Word}
use Rattle.formula.specs.declared.word.Word.TheVariants.{Eq as EqW, Lt as LtW, Gt as GtW, Mark as MarkW, By as ByW, Not as NotW, And as AndW, Or as OrW, Implies as ImpliesW, Before as BeforeW, Once as OnceW, Always as AlwaysW, Since as SinceW}
use Rattle.grammar.specs.Recording.{Formula, eq, lt, gt, mark, by, neg, before, once, always, and, or, implies, since}
use Rattle.formula.specs.Truth.{size}
use Rattle.formula.specs.Words.{word_at, Spells, Spell, OneFormula, Missing}
use Rattle.formula.proofs.Truths.{size_pos}
use Rattle.formula.proofs.Spelt.{Good}

abbrev arity : Word → ℕ
arity (EqW x c) = 0
arity (LtW x c) = 0
arity (GtW x c) = 0
arity (MarkW k) = 0
arity (ByW k) = 0
arity NotW = 1
arity AndW = 2
arity OrW = 2
arity ImpliesW = 2
arity BeforeW = 1
arity OnceW = 1
arity AlwaysW = 1
arity SinceW = 2

-- how a spelt formula is made
data View (ws : List Word) (k : ℕ) (f : Formula) : Type 0 where
  none : arity (word_at ws k) ≡ 0 → size f ≡ 1 → View ws k f
  one : arity (word_at ws k) ≡ 1 → (g : Formula) → Spells ws (k + 1) g → size f ≡ 1 + size g → View ws k f
  two : arity (word_at ws k) ≡ 2 → (g h : Formula) → Spells ws (k + 1) g → Spells ws (k + 1 + size g) h → size f ≡ 1 + (size g + size h) → View ws k f

view : (ws : List Word) (k : ℕ) (f : Formula) → Spells ws k f → View ws k f
view ws k (eq x c) s = none (ap arity s) refl
view ws k (lt x c) s = none (ap arity s) refl
view ws k (gt x c) s = none (ap arity s) refl
view ws k (mark m) s = none (ap arity s) refl
view ws k (by m) s = none (ap arity s) refl
view ws k (neg f) s = one (ap arity s.0) f s.1 refl
view ws k (and f g) s = two (ap arity s.0) f g s.1 s.2 refl
view ws k (or f g) s = two (ap arity s.0) f g s.1 s.2 refl
view ws k (implies f g) s = two (ap arity s.0) f g s.1 s.2 refl
view ws k (before f) s = one (ap arity s.0) f s.1 refl
view ws k (once f) s = one (ap arity s.0) f s.1 refl
view ws k (always f) s = one (ap arity s.0) f s.1 refl
view ws k (since f g) s = two (ap arity s.0) f g s.1 s.2 refl

-- a word with its parts
abbrev built : Word → Formula → Formula → Formula
built (EqW x c) f g = eq x c
built (LtW x c) f g = lt x c
built (GtW x c) f g = gt x c
built (MarkW k) f g = mark k
built (ByW t) f g = by t
built NotW f g = neg f
built BeforeW f g = before f
built OnceW f g = once f
built AlwaysW f g = always f
built AndW f g = and f g
built OrW f g = or f g
built ImpliesW f g = implies f g
built SinceW f g = since f g

-- the formula that is spelt from k on, if it has at most n words
unfoldable read : List Word → ℕ → ℕ → Formula
read ws zero k = mark 0
read ws (suc n) k = built (word_at ws k) (read ws n (k + 1)) (read ws n (k + 1 + size (read ws n (k + 1))))

module _ (ws : List Word) where
  by_word : (n k : ℕ) (w : Word) → word_at ws k ≡ w → read ws (suc n) k ≡ built w (read ws n (k + 1)) (read ws n (k + 1 + size (read ws n (k + 1))))
  unfolding read
  by_word n k w e = ap (λ v. built v (read ws n (k + 1)) (read ws n (k + 1 + size (read ws n (k + 1))))) e

  both : (con : Formula → Formula → Formula) (n k : ℕ) (f g : Formula) → read ws n (k + 1) ≡ f → read ws n (k + 1 + size f) ≡ g
      → con (read ws n (k + 1)) (read ws n (k + 1 + size (read ws n (k + 1)))) ≡ con f g
  both con n k f g p q = ap (λ x. con x (read ws n (k + 1 + size x))) p ∙ ap (con f) q

  read_spelt : (n k : ℕ) (f : Formula) → size f ≤ n → Spells ws k f → read ws n k ≡ f
  read_spelt zero k f h s = absurd (omega (arith, size_pos f))
  read_spelt (suc n) k (eq x c) h s = by_word n k (EqW x c) s
  read_spelt (suc n) k (lt x c) h s = by_word n k (LtW x c) s
  read_spelt (suc n) k (gt x c) h s = by_word n k (GtW x c) s
  read_spelt (suc n) k (mark m) h s = by_word n k (MarkW m) s
  read_spelt (suc n) k (by m) h s = by_word n k (ByW m) s
  read_spelt (suc n) k (neg f) h s = by_word n k NotW s.0 ∙ ap neg (read_spelt n (k + 1) f (omega arith) s.1)
  read_spelt (suc n) k (before f) h s = by_word n k BeforeW s.0 ∙ ap before (read_spelt n (k + 1) f (omega arith) s.1)
  read_spelt (suc n) k (once f) h s = by_word n k OnceW s.0 ∙ ap once (read_spelt n (k + 1) f (omega arith) s.1)
  read_spelt (suc n) k (always f) h s = by_word n k AlwaysW s.0 ∙ ap always (read_spelt n (k + 1) f (omega arith) s.1)
  read_spelt (suc n) k (and f g) h s =
      by_word n k AndW s.0 ∙ both and n k f g (read_spelt n (k + 1) f (omega arith) s.1) (read_spelt n (k + 1 + size f) g (omega arith) s.2)
  read_spelt (suc n) k (or f g) h s =
      by_word n k OrW s.0 ∙ both or n k f g (read_spelt n (k + 1) f (omega arith) s.1) (read_spelt n (k + 1 + size f) g (omega arith) s.2)
  read_spelt (suc n) k (implies f g) h s =
      by_word n k ImpliesW s.0 ∙ both implies n k f g (read_spelt n (k + 1) f (omega arith) s.1) (read_spelt n (k + 1 + size f) g (omega arith) s.2)
  read_spelt (suc n) k (since f g) h s =
      by_word n k SinceW s.0 ∙ both since n k f g (read_spelt n (k + 1) f (omega arith) s.1) (read_spelt n (k + 1 + size f) g (omega arith) s.2)

  pub one_spelt : (k : ℕ) (f g : Formula) → Spells ws k f → Spells ws k g → f ≡ g
  one_spelt k f g s t = sym (read_spelt (size f + size g) k f (omega arith) s) ∙ read_spelt (size f + size g) k g (omega arith) t

  pub same_size : (k : ℕ) (f g : Formula) → Spells ws k f → Spells ws k g → size f ≡ size g
  same_size k f g s t = ap size (one_spelt k f g s t)

-- a spelt formula has a subformula at each of its words
record Sub (ws : List Word) (i n : ℕ) : Type 0 where
  pub form : Formula
  pub spelt : Spells ws i form
  pub fits : i + size form ≤ n

sub : (ws : List Word) (n k : ℕ) (f : Formula) (i m : ℕ) → size f ≤ n → Spells ws k f → k ≤ i → i < k + size f → k + size f ≤ m → Sub ws i m
sub ws zero k f i m h s l u e = absurd (omega (arith, size_pos f))
sub ws (suc n) k f i m h s l u e = ⊎_elim (λ over. go (λ j g a b d e' z. sub ws n j g i m a b d e' z) over (view ws k f s)) (λ same. let at : k ≡ i = omega arith in record { form = f; spelt = subst (λ j. Spells ws j f) at s; fits = omega arith }) (cases_lt k i)
  where
    go : ((j : ℕ) (g : Formula) → size g ≤ n → Spells ws j g → j ≤ i → i < j + size g → j + size g ≤ m → Sub ws i m) → k < i → View ws k f → Sub ws i m
    go more over (none a p) = absurd (omega arith)
    go more over (one a g sg p) = more (k + 1) g (omega arith) sg (omega arith) (omega arith) (omega arith)
    go more over (two a g h' sg sh p) =
        ⊎_elim
        (λ c. more (k + 1) g (omega arith) sg (omega arith) c (omega arith))
        (λ c. more (k + 1 + size g) h' (omega arith) sh c (omega arith) (omega arith))
        (cases_lt i (k + 1 + size g))

missing_arity : (i n : ℕ) (ends : List ℕ) (w : Word) → Missing i n ends w → ((arity w ≡ 1) × (n ≤ i + 1)) ⊎ ((arity w ≡ 2) × (i + 1 < n → n ≤ get_or ends (i + 1) 0))
missing_arity i n ends (EqW x c) h = absurd h
missing_arity i n ends (LtW x c) h = absurd h
missing_arity i n ends (GtW x c) h = absurd h
missing_arity i n ends (MarkW k) h = absurd h
missing_arity i n ends (ByW k) h = absurd h
missing_arity i n ends NotW h = inl (refl, h)
missing_arity i n ends AndW h = inr (refl, h)
missing_arity i n ends OrW h = inr (refl, h)
missing_arity i n ends ImpliesW h = inr (refl, h)
missing_arity i n ends BeforeW h = inl (refl, h)
missing_arity i n ends OnceW h = inl (refl, h)
missing_arity i n ends AlwaysW h = inl (refl, h)
missing_arity i n ends SinceW h = inr (refl, h)

-- where a word has no place, the words spell no formula
pub stuck : (ws : List Word) (n : ℕ) (nodes : List Node) (ends : List ℕ) (i : ℕ) → i < n → ((k : ℕ) → i < k → k < n → Good ws n nodes ends k)
    → Missing i n ends (word_at ws i) → (f : Formula) → Spells ws 0 f → size f ≡ n → ⊥
stuck ws n nodes ends i low later miss f s all = go (sub ws n 0 f i n (omega arith) s (omega arith) (omega arith) (omega arith)) (missing_arity i n ends (word_at ws i) miss)
  where
    go : Sub ws i n → ((arity (word_at ws i) ≡ 1) × (n ≤ i + 1)) ⊎ ((arity (word_at ws i) ≡ 2) × (i + 1 < n → n ≤ get_or ends (i + 1) 0)) → ⊥
    go b m = by_view (view ws i b.form b.spelt) m
      where
        by_view : View ws i b.form → ((arity (word_at ws i) ≡ 1) × (n ≤ i + 1)) ⊎ ((arity (word_at ws i) ≡ 2) × (i + 1 < n → n ≤ get_or ends (i + 1) 0)) → ⊥
        by_view (none a p) (inl q) = omega (arith, q.0)
        by_view (none a p) (inr q) = omega (arith, q.0)
        by_view (one a g sg p) (inl q) = omega (arith, q.1, b.fits, size_pos g)
        by_view (one a g sg p) (inr q) = omega (arith, q.0)
        by_view (two a g h sg sh p) (inl q) = omega (arith, q.0)
        by_view (two a g h sg sh p) (inr q) =
            let here : i + 1 < n = omega (arith, b.fits, size_pos g, size_pos h) in
            let x = later (i + 1) (omega arith) here in
            let same = same_size ws (i + 1) g x.form sg x.spelt in
            omega (arith, q.1 here, x.ends_at, same, b.fits, size_pos h)

pub one_formula : (ws : List Word) → OneFormula ws
one_formula ws f g s t = one_spelt ws 0 f g s.0 t.0

-- of no words, or more than 60, there is nothing to compile
pub none_fits : (ws : List Word) → (length ws ≡ 0) ⊎ (60 < length ws) → length ws ≤ 60 → (f : Formula) → Spell ws f → ⊥
none_fits ws h few f s = ⊎_elim (λ e. omega (arith, e, s.1, size_pos f)) (λ m. omega (arith, m, few)) h
