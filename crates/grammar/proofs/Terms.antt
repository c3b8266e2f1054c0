-- Each formula is written as a term is, and each term as a formula.
use Rattle.std.proofs.Common.{◌≡◌, ℕ, zero, suc, ◌^◌, ◌<◌, List, [], ◌∷◌, ◌++◌, ℤ, codes, decimal, sym, refl, ap, ◌∙◌, subst, inl, inr, append_assoc}
use Rattle.std.specs.Fmt.{signed_decimal}
use Rattle.grammar.specs.Recording.{Formula, eq, lt, gt, mark, by, neg, before, once, always, and, or, implies, since, Piece, closing, blank, flat, formula, TenDigits, Nests}
use Rattle.grammar.specs.Spelling.{Among, Term, cmp, tag, un, bin, cmps, tags, uns, bins, Fits, shown}
use Rattle.grammar.proofs.Decimal.{decimal_num, num_decimal, signed_int, int_signed}

abbrev pub term_of : Formula → Term
term_of (eq x c) = cmp (codes "eq") (decimal x) (signed_decimal c)
term_of (lt x c) = cmp (codes "lt") (decimal x) (signed_decimal c)
term_of (gt x c) = cmp (codes "gt") (decimal x) (signed_decimal c)
term_of (mark k) = tag (codes "mark") (decimal k)
term_of (by k) = tag (codes "by") (decimal k)
term_of (neg f) = un (codes "not") (term_of f)
term_of (before f) = un (codes "before") (term_of f)
term_of (once f) = un (codes "once") (term_of f)
term_of (always f) = un (codes "always") (term_of f)
term_of (and f g) = bin (codes "and") (term_of f) (term_of g)
term_of (or f g) = bin (codes "or") (term_of f) (term_of g)
term_of (implies f g) = bin (codes "implies") (term_of f) (term_of g)
term_of (since f g) = bin (codes "since") (term_of f) (term_of g)

pub fits : (d : ℕ) (f : Formula) → Nests d f → Fits d (term_of f)
fits d (eq x c) (h, k) = (inl refl, decimal_num x h, signed_int c k)
fits d (lt x c) (h, k) = (inr (inl refl), decimal_num x h, signed_int c k)
fits d (gt x c) (h, k) = (inr (inr (inl refl)), decimal_num x h, signed_int c k)
fits d (mark k) h = (inl refl, decimal_num k h)
fits d (by k) h = (inr (inl refl), decimal_num k h)
fits zero (neg f) h = absurd h
fits (suc d) (neg f) h = (inl refl, fits d f h)
fits zero (before f) h = absurd h
fits (suc d) (before f) h = (inr (inl refl), fits d f h)
fits zero (once f) h = absurd h
fits (suc d) (once f) h = (inr (inr (inl refl)), fits d f h)
fits zero (always f) h = absurd h
fits (suc d) (always f) h = (inr (inr (inr (inl refl))), fits d f h)
fits zero (and f g) h = absurd h
fits (suc d) (and f g) (h, k) = (inl refl, fits d f h, fits d g k)
fits zero (or f g) h = absurd h
fits (suc d) (or f g) (h, k) = (inr (inl refl), fits d f h, fits d g k)
fits zero (implies f g) h = absurd h
fits (suc d) (implies f g) (h, k) = (inr (inr (inl refl)), fits d f h, fits d g k)
fits zero (since f g) h = absurd h
fits (suc d) (since f g) (h, k) = (inr (inr (inr (inl refl))), fits d f h, fits d g k)

-- the terms with m behind
cmp_then : (w x c m : List ℕ) → 40 ∷ (w ++ (32 ∷ (x ++ (32 ∷ (c ++ (41 ∷ m)))))) ≡ shown (cmp w x c) ++ m
cmp_then w x c m = sym (simp append_assoc)

tag_then : (w x m : List ℕ) → 40 ∷ (w ++ (32 ∷ (x ++ (41 ∷ m)))) ≡ shown (tag w x) ++ m
tag_then w x m = sym (simp append_assoc)

un_then : (w : List ℕ) (f : Term) (m : List ℕ) → 40 ∷ (w ++ (32 ∷ (shown f ++ (41 ∷ m)))) ≡ shown (un w f) ++ m
un_then w f m = all w (shown f)
  where
    all : (w u : List ℕ) → 40 ∷ (w ++ (32 ∷ (u ++ (41 ∷ m)))) ≡ (40 ∷ (w ++ (32 ∷ (u ++ (41 ∷ []))))) ++ m
    all w u = sym (simp append_assoc)

bin_then : (w : List ℕ) (f g : Term) (m : List ℕ) → 40 ∷ (w ++ (32 ∷ (shown f ++ (32 ∷ (shown g ++ (41 ∷ m)))))) ≡ shown (bin w f g) ++ m
bin_then w f g m = all w (shown f) (shown g)
  where
    all : (w u v : List ℕ) → 40 ∷ (w ++ (32 ∷ (u ++ (32 ∷ (v ++ (41 ∷ m)))))) ≡ (40 ∷ (w ++ (32 ∷ (u ++ (32 ∷ (v ++ (41 ∷ []))))))) ++ m
    all w u v = sym (simp append_assoc)

-- f is written as the term t is
abbrev pub Same : Formula → Term → Type 0
Same f t = (more : List Piece) → flat (formula f more) ≡ shown t ++ flat more

same_un : (w : List ℕ) (f : Formula) (t : Term) (more : List Piece) → Same f t
    → 40 ∷ (w ++ (32 ∷ flat (formula f (closing ∷ more)))) ≡ shown (un w t) ++ flat more
same_un w f t more h = ap (λ (x : List ℕ). 40 ∷ (w ++ (32 ∷ x))) (h (closing ∷ more)) ∙ un_then w t (flat more)

same_bin : (w : List ℕ) (f g : Formula) (t u : Term) (more : List Piece) → Same f t → Same g u
    → 40 ∷ (w ++ (32 ∷ flat (formula f (blank ∷ formula g (closing ∷ more))))) ≡ shown (bin w t u) ++ flat more
same_bin w f g t u more h k =
    ap (λ (x : List ℕ). 40 ∷ (w ++ (32 ∷ x))) (h (blank ∷ formula g (closing ∷ more)) ∙ ap (λ (x : List ℕ). shown t ++ (32 ∷ x)) (k (closing ∷ more)))
    ∙ bin_then w t u (flat more)

pub same : (f : Formula) → Same f (term_of f)
same (eq x c) more = cmp_then (codes "eq") (decimal x) (signed_decimal c) (flat more)
same (lt x c) more = cmp_then (codes "lt") (decimal x) (signed_decimal c) (flat more)
same (gt x c) more = cmp_then (codes "gt") (decimal x) (signed_decimal c) (flat more)
same (mark k) more = tag_then (codes "mark") (decimal k) (flat more)
same (by k) more = tag_then (codes "by") (decimal k) (flat more)
same (neg f) more = same_un (codes "not") f (term_of f) more (same f)
same (before f) more = same_un (codes "before") f (term_of f) more (same f)
same (once f) more = same_un (codes "once") f (term_of f) more (same f)
same (always f) more = same_un (codes "always") f (term_of f) more (same f)
same (and f g) more = same_bin (codes "and") f g (term_of f) (term_of g) more (same f) (same g)
same (or f g) more = same_bin (codes "or") f g (term_of f) (term_of g) more (same f) (same g)
same (implies f g) more = same_bin (codes "implies") f g (term_of f) (term_of g) more (same f) (same g)
same (since f g) more = same_bin (codes "since") f g (term_of f) (term_of g) more (same f) (same g)

-- back: what each word makes
pub record Compares (w : List ℕ) : Type 0 where
  make : ℕ → ℤ → Formula
  nests : (d x : ℕ) (c : ℤ) → x < 10 ^ 10 → TenDigits c → Nests d (make x c)
  says : (x : ℕ) (c : ℤ) → Same (make x c) (cmp w (decimal x) (signed_decimal c))

compares : (w : List ℕ) → Among w cmps → Compares w
compares w (inl e) = subst Compares (sym e) (record { make = eq; nests = λ d x c h k. (h, k); says = λ x c. same (eq x c) })
compares w (inr (inl e)) = subst Compares (sym e) (record { make = lt; nests = λ d x c h k. (h, k); says = λ x c. same (lt x c) })
compares w (inr (inr (inl e))) = subst Compares (sym e) (record { make = gt; nests = λ d x c h k. (h, k); says = λ x c. same (gt x c) })
compares w (inr (inr (inr h))) = absurd h

pub record Names (w : List ℕ) : Type 0 where
  make : ℕ → Formula
  nests : (d k : ℕ) → k < 10 ^ 10 → Nests d (make k)
  says : (k : ℕ) → Same (make k) (tag w (decimal k))

names : (w : List ℕ) → Among w tags → Names w
names w (inl e) = subst Names (sym e) (record { make = mark; nests = λ d k h. h; says = λ k. same (mark k) })
names w (inr (inl e)) = subst Names (sym e) (record { make = by; nests = λ d k h. h; says = λ k. same (by k) })
names w (inr (inr h)) = absurd h

pub record Holds (w : List ℕ) : Type 0 where
  make : Formula → Formula
  nests : (d : ℕ) (f : Formula) → Nests d f → Nests (suc d) (make f)
  says : (f : Formula) (t : Term) → Same f t → Same (make f) (un w t)

holds : (w : List ℕ) → Among w uns → Holds w
holds w (inl e) = subst Holds (sym e) (record { make = neg; nests = λ d f h. h; says = λ f t h more. same_un (codes "not") f t more h })
holds w (inr (inl e)) = subst Holds (sym e) (record { make = before; nests = λ d f h. h; says = λ f t h more. same_un (codes "before") f t more h })
holds w (inr (inr (inl e))) = subst Holds (sym e) (record { make = once; nests = λ d f h. h; says = λ f t h more. same_un (codes "once") f t more h })
holds w (inr (inr (inr (inl e)))) =
    subst Holds (sym e) (record { make = always; nests = λ d f h. h; says = λ f t h more. same_un (codes "always") f t more h })
holds w (inr (inr (inr (inr h)))) = absurd h

pub record Joins (w : List ℕ) : Type 0 where
  make : Formula → Formula → Formula
  nests : (d : ℕ) (f g : Formula) → Nests d f → Nests d g → Nests (suc d) (make f g)
  says : (f g : Formula) (t u : Term) → Same f t → Same g u → Same (make f g) (bin w t u)

joins : (w : List ℕ) → Among w bins → Joins w
joins w (inl e) =
    subst Joins (sym e) (record { make = and; nests = λ d f g h k. (h, k); says = λ f g t u h k more. same_bin (codes "and") f g t u more h k })
joins w (inr (inl e)) =
    subst Joins (sym e) (record { make = or; nests = λ d f g h k. (h, k); says = λ f g t u h k more. same_bin (codes "or") f g t u more h k })
joins w (inr (inr (inl e))) =
    subst Joins (sym e) (record { make = implies; nests = λ d f g h k. (h, k); says = λ f g t u h k more. same_bin (codes "implies") f g t u more h k })
joins w (inr (inr (inr (inl e)))) =
    subst Joins (sym e) (record { make = since; nests = λ d f g h k. (h, k); says = λ f g t u h k more. same_bin (codes "since") f g t u more h k })
joins w (inr (inr (inr (inr h)))) = absurd h

pub formula_of : (d : ℕ) (t : Term) → Fits d t → (f : Formula) × Nests d f × Same f t
formula_of d (cmp w x c) (m, hx, hc) = go (num_decimal x hx) (int_signed c hc)
  where
    k : Compares w
    k = compares w m

    go : (n : ℕ) × (n < 10 ^ 10) × (x ≡ decimal n) → (z : ℤ) × TenDigits z × (c ≡ signed_decimal z) → (f : Formula) × Nests d f × Same f (cmp w x c)
    go (n, hn, en) (z, hz, ez) = (
      k.make n z,
      k.nests d n z hn hz,
      λ more. k.says n z more ∙ ap (λ (y : List ℕ). shown (cmp w y (signed_decimal z)) ++ flat more) (sym en) ∙ ap (λ (y : List ℕ). shown (cmp w x y) ++ flat more) (sym ez),
    )
formula_of d (tag w x) (m, hx) = go (num_decimal x hx)
  where
    k : Names w
    k = names w m

    go : (n : ℕ) × (n < 10 ^ 10) × (x ≡ decimal n) → (f : Formula) × Nests d f × Same f (tag w x)
    go (n, hn, en) = (k.make n, k.nests d n hn, λ more. k.says n more ∙ ap (λ (y : List ℕ). shown (tag w y) ++ flat more) (sym en))
formula_of zero (un w t) h = absurd h
formula_of (suc d) (un w t) (m, h) =
    let k = holds w m in let r = formula_of d t h in (k.make r.0, k.nests d r.0 r.1, k.says r.0 t r.2)
formula_of zero (bin w t u) h = absurd h
formula_of (suc d) (bin w t u) (m, h, i) =
    let k = joins w m in
    let r = formula_of d t h in
    let q = formula_of d u i in
    (k.make r.0 q.0, k.nests d r.0 q.0 r.1 q.1, k.says r.0 q.0 t u r.2 q.2)
