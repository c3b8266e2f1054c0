-- The machine gives each text its shape.
use Rattle.std.proofs.Common.{◌≡◌, ℕ, Bool, true, false, cond, ◌&&◌, T, ◌⊎◌, List, [], ◌∷◌, ◌++◌, codes, sym, refl, ap, subst, inl, inr, append-nil, arith}
use Rattle.grammar.specs.Recording.{Shape, whole, wrong, early, Shaped}
use Rattle.grammar.specs.Spelling.{Among, Num, Term, tag, shown, AllInt, spaced, row_lines, Spelling, Sound, Spelled, SpelledRule}
use Rattle.grammar.specs.Machine.{Class, is, any, some, Has, has, Name, more, num, int, tail, vals, rest, form, Sym, t, n, lits, Prod, prods, nullable, keep, skip, pick, after, ends, any_ends, step, later, ended, next, run, start}
use Rattle.grammar.proofs.Language.{lang, L, Unfolds, among_left, among_right, among_cases, lits_to, lits_from, join, split}
use Rattle.grammar.proofs.Unfold.{unfold_to, unfold_from, nil_from}
use Rattle.std.proofs.lemmas.Bool.Decides.{nat_tests}

-- a test tells
pub has_to : (c : Class) (b : ℕ) → Has c b → has c b ≡ true
has_to (is c) b h = grind (arith, nat_tests)
has_to any b h = grind (arith, nat_tests)
has_to some b h = grind (arith, nat_tests)

pub has_from : (c : Class) (b : ℕ) → has c b ≡ true → Has c b
has_from (is c) b h = grind (arith, nat_tests)
has_from any b h = grind (arith, nat_tests)
has_from some b h = grind (arith, nat_tests)

abbrev pub Ls : List (List Sym) → List ℕ → Type 0
Ls S w = (s : List Sym) × Among s S × L s w

keep_here : {A : Type 0} (v : Bool) (x : A) (xs : List A) → v ≡ true → Among x (keep v x xs)
keep_here true x xs e = inl refl
keep_here false x xs e = let z : ◌≡◌ {A = ℕ} 0 1 = cc in absurd (omega arith)

keep_there : {A : Type 0} (v : Bool) (x y : A) (xs : List A) → Among y xs → Among y (keep v x xs)
keep_there true x y xs h = inr h
keep_there false x y xs h = h

keep_cases : {A : Type 0} (v : Bool) (x y : A) (xs : List A) → Among y (keep v x xs) → ((v ≡ true) × (y ≡ x)) ⊎ Among y xs
keep_cases true x y xs (inl e) = inl (refl, e)
keep_cases true x y xs (inr h) = inr h
keep_cases false x y xs h = inr h

pick_in : (ps : List Prod) (s : List Sym) (b : ℕ) (p : Prod) → Among p ps → has p.0 b ≡ true → Among (p.1 ++ s) (pick ps s b)
pick_in [] s b p m h = absurd m
pick_in (q ∷ ps) s b p (inl e) h =
    subst (λ (x : Prod). Among (x.1 ++ s) (pick (q ∷ ps) s b)) (sym e)
    (keep_here (has q.0 b) (q.1 ++ s) (pick ps s b) (subst (λ (x : Prod). has x.0 b ≡ true) e h))
pick_in (q ∷ ps) s b p (inr m) h = keep_there (has q.0 b) (q.1 ++ s) (p.1 ++ s) (pick ps s b) (pick_in ps s b p m h)

pick_out : (ps : List Prod) (s : List Sym) (b : ℕ) (r : List Sym) → Among r (pick ps s b)
    → (p : Prod) × Among p ps × (has p.0 b ≡ true) × (r ≡ p.1 ++ s)
pick_out [] s b r m = absurd m
pick_out (q ∷ ps) s b r m =
    elim (keep_cases (has q.0 b) (q.1 ++ s) r (pick ps s b) m) [
      | inl h ↦ (q, inl refl, h.0, h.1)
      | inr h ↦ let o = pick_out ps s b r h in (o.0, inr o.1, o.2, o.3)
    ]

complete : (s : List Sym) (b : ℕ) (w : List ℕ) → L s (b ∷ w) → Ls (after s b) w
complete [] b w e = let z : ◌≡◌ {A = ℕ} 0 1 = cc in absurd (omega arith)
complete (t c ∷ s) b w (b', u, e, h, l) =
    let eb : b' ≡ b = cc in
    let ew : u ≡ w = cc in
    (s, keep_here (has c b) s [] (has_to c b (subst (Has c) eb h)), subst (L s) ew l)
complete (n x ∷ s) b w (u, v, e, hx, l) =
    go (unfold_to x u hx) (λ (ev : v ≡ b ∷ w). complete s b w (subst (L s) ev l))
  where
    there : (p : Prod) (b' : ℕ) (u' : List ℕ) → Among p (prods x) → u ≡ b' ∷ u' → Has p.0 b' → L p.1 u' → Ls (after (n x ∷ s) b) w
    there p b' u' m eu hb lp =
        let eb : b' ≡ b = cc in
        let ew : u' ++ v ≡ w = cc in
        (p.1 ++ s, among_left (p.1 ++ s) (pick (prods x) s b) (skip (nullable x) (after s b)) (pick_in (prods x) s b p m (has_to p.0 b (subst (Has p.0) eb hb))), subst (L (p.1 ++ s)) ew (join p.1 s u' v lp l))

    past : (v : Bool) → T v → (S : List (List Sym)) → Ls S w → Ls (pick (prods x) s b ++ skip v S) w
    past true h S (r, m, lr) = (r, among_right r (pick (prods x) s b) S m, lr)
    past false h S k = absurd h

    go : Unfolds x u → (v ≡ b ∷ w → Ls (after s b) w) → Ls (after (n x ∷ s) b) w
    go (inl (eu, nul)) ih = let ev : v ≡ b ∷ w = cc in past (nullable x) nul (after s b) (ih ev)
    go (inr (p, m, (b', u', eu, hb, lp))) ih = there p b' u' m eu hb lp

sound : (s : List Sym) (b : ℕ) (w : List ℕ) (r : List Sym) → Among r (after s b) → L r w → L s (b ∷ w)
sound [] b w r m l = absurd m
sound (t c ∷ s) b w r m l =
    elim (keep_cases (has c b) s r [] m) [ inl h ↦ (b, w, refl, has_from c b h.0, subst (λ (y : List Sym). L y w) h.1 l) | inr h ↦ absurd h ]
sound (n x ∷ s) b w r m l =
    go (nullable x) (λ (y : T (nullable x)). y) (among_cases r (pick (prods x) s b) (skip (nullable x) (after s b)) m) (λ (k : Among r (after s b)). sound s b w r k l)
  where
    there : (p : Prod) → Among p (prods x) → has p.0 b ≡ true → r ≡ p.1 ++ s → L (n x ∷ s) (b ∷ w)
    there p mp hb e =
        let o = split p.1 s w (subst (λ (y : List Sym). L y w) e l) in
        (b ∷ o.0, o.1, ap (λ (y : List ℕ). b ∷ y) o.2, unfold_from x (b ∷ o.0) (inr (p, mp, (b, o.0, refl, has_from p.0 b hb, o.3))), o.4)

    go : (v : Bool) → (T v → T (nullable x)) → Among r (pick (prods x) s b) ⊎ Among r (skip v (after s b)) → (Among r (after s b) → L s (b ∷ w)) → L (n x ∷ s) (b ∷ w)
    go v f (inl k) ih = let o = pick_out (prods x) s b r k in there o.0 o.1 o.2 o.3
    go true f (inr k) ih = ([], b ∷ w, refl, nil_from x (f tt), ih k)
    go false f (inr k) ih = absurd k

-- every name has a word, so every row has
some_word : (x : Name) → (w : List ℕ) × lang x w
some_word (more k) = ([], tt)
some_word num = (48 ∷ [], inl refl)
some_word int = (48 ∷ [], inl (inl refl))
some_word tail = ([], ([], tt, refl))
some_word vals = ([], ([], tt, refl))
some_word rest =
    let f : Term = tag (codes "by") (48 ∷ []) in (row_lines [] f, ([], f, tt, (inr (inl refl), inl refl), refl))
some_word (form d) =
    let f : Term = tag (codes "by") (48 ∷ []) in (shown f, (f, (inr (inl refl), inl refl), refl))

some_byte : (c : Class) → (b : ℕ) × Has c b
some_byte (is c) = (c, refl)
some_byte any = (48, omega arith)
some_byte some = (49, omega arith)

some_row : (s : List Sym) → (w : List ℕ) × L s w
some_row [] = ([], refl)
some_row (t c ∷ s) = let r = some_row s in let b = some_byte c in (b.0 ∷ r.0, (b.0, r.0, refl, b.1, r.1))
some_row (n x ∷ s) = let r = some_row s in let u = some_word x in (u.0 ++ r.0, (u.0, r.0, refl, u.1, r.1))

nil_to : (x : Name) → lang x [] → nullable x ≡ true
nil_to x h = go (unfold_to x [] h)
  where
    is_true : (v : Bool) → T v → v ≡ true
    is_true true h = refl
    is_true false h = absurd h

    go : Unfolds x [] → nullable x ≡ true
    go (inl (e, h)) = is_true (nullable x) h
    go (inr (p, m, (b, u, e, hb, l))) = cc

and-true : (a b : Bool) → a ≡ true → b ≡ true → a && b ≡ true
and-true a b p q = cc

ends_to : (s : List Sym) → L s [] → ends s ≡ true
ends_to [] h = refl
ends_to (t c ∷ s) (b, u, e, h, l) = cc
ends_to (n x ∷ s) (u, v, e, hx, l) =
    and-true (nullable x) (ends s) (nil_to x (subst (lang x) (nils u v e).0 hx)) (ends_to s (subst (L s) (nils u v e).1 l))
  where
    nils : (u v : List ℕ) → [] ≡ u ++ v → (u ≡ []) × (v ≡ [])
    nils [] v e = (refl, sym e)
    nils (y ∷ u) v e = (cc, cc)

ends_from : (s : List Sym) → T (ends s) → L s []
ends_from [] h = refl
ends_from (t c ∷ s) h = absurd h
ends_from (n x ∷ s) h = go (nullable x) (ends s) (λ k. k) h (λ k. ends_from s k)
  where
    go : (a b : Bool) → (T a → T (nullable x)) → T (a && b) → (T b → L s []) → L (n x ∷ s) []
    go true b f h ih = ([], [], refl, nil_from x (f tt), ih h)
    go false b f h ih = absurd h

any_to : (S : List (List Sym)) → Ls S [] → any_ends S ≡ true
any_to [] (s, m, l) = absurd m
any_to (r ∷ S) (s, inl e, l) = let h = ends_to r (subst (λ (y : List Sym). L y []) e l) in cc
any_to (r ∷ S) (s, inr m, l) = go (ends r) (any_to S (s, m, l))
  where
    go : (v : Bool) → any_ends S ≡ true → cond v true (any_ends S) ≡ true
    go true h = refl
    go false h = h

any_from : (S : List (List Sym)) → T (any_ends S) → Ls S []
any_from [] h = absurd h
any_from (r ∷ S) h = go (ends r) (λ k. k) h (λ k. any_from S k)
  where
    go : (v : Bool) → (T v → T (ends r)) → T (cond v true (any_ends S)) → (T (any_ends S) → Ls S []) → Ls (r ∷ S) []
    go true f h ih = (r, inl refl, ends_from r (f tt))
    go false f h ih = let o = ih h in (o.0, inr o.1, o.2)

step_to : (S : List (List Sym)) (b : ℕ) (w : List ℕ) → Ls S (b ∷ w) → Ls (step S b) w
step_to [] b w (s, m, l) = absurd m
step_to (r ∷ S) b w (s, inl e, l) =
    let o = complete r b w (subst (λ (y : List Sym). L y (b ∷ w)) e l) in (o.0, among_left o.0 (after r b) (step S b) o.1, o.2)
step_to (r ∷ S) b w (s, inr m, l) =
    let o = step_to S b w (s, m, l) in (o.0, among_right o.0 (after r b) (step S b) o.1, o.2)

step_from : (S : List (List Sym)) (b : ℕ) (w : List ℕ) → Ls (step S b) w → Ls S (b ∷ w)
step_from [] b w (s, m, l) = absurd m
step_from (r ∷ S) b w (s, m, l) =
    elim (among_cases s (after r b) (step S b) m) [
      | inl k ↦ (r, inl refl, sound r b w s k l)
      | inr k ↦ let o = step_from S b w (s, k, l) in (o.0, inr o.1, o.2)
    ]

-- S are the rows of the texts Q, not none
pub record Tracks (Q : List ℕ → Type 0) (S : List (List Sym)) : Type 0 where
  pub to : (v : List ℕ) → Ls S v → Q v
  pub from : (v : List ℕ) → Q v → Ls S v

right_later : (Q : List ℕ → Type 0) (b : ℕ) (o : Shape) (w : List ℕ) → Shaped (λ v. Q (b ∷ v)) w o → Shaped Q (b ∷ w) (later o)
right_later Q b whole w h = h
right_later Q b (wrong k) w (h, f, g) = (omega arith, f, g)
right_later Q b early w h = h

pub right : (w : List ℕ) (Q : List ℕ → Type 0) (s : List Sym) (S : List (List Sym)) → Tracks Q (s ∷ S) → Shaped Q w (run (s ∷ S) w)
right [] Q s S k = go (any_ends (s ∷ S)) (λ h. h) (λ h. h)
  where
    go : (v : Bool) → (T v → T (any_ends (s ∷ S))) → (any_ends (s ∷ S) ≡ true → v ≡ true) → Shaped Q [] (ended v)
    go true f g = k.to [] (any_from (s ∷ S) (f tt))
    go false f g =
        (((some_row s).0, k.to (some_row s).0 (s, inl refl, (some_row s).1)), (λ q. let e = g (any_to (s ∷ S) (k.from [] q)) in let z : ◌≡◌ {A = ℕ} 0 1 = cc in omega arith))
right (b ∷ w) Q s S k = go (step (s ∷ S) b) (record { to = λ v l. k.to (b ∷ v) (step_from (s ∷ S) b v l); from = λ v q. step_to (s ∷ S) b v (k.from (b ∷ v) q) })
    (λ r R. right w (λ v. Q (b ∷ v)) r R)
  where
    go : (R : List (List Sym)) → Tracks (λ v. Q (b ∷ v)) R
        → ((r : List Sym) (R : List (List Sym)) → Tracks (λ v. Q (b ∷ v)) (r ∷ R) → Shaped (λ v. Q (b ∷ v)) w (run (r ∷ R) w))
        → Shaped Q (b ∷ w) (next R (run R w))
    go [] j ih = (omega arith, ((some_row s).0, k.to (some_row s).0 (s, inl refl, (some_row s).1)), (λ h. (j.from h.0 h.1).1))
    go (r ∷ R) j ih = right_later Q b (run (r ∷ R) w) w (ih r R j)

head_to : (o p q : List ℕ) (r : Spelling) → Sound r
    → L (lits o (n num ∷ lits p (n vals ∷ lits q (t (is 10) ∷ n rest ∷ [])))) (o ++ (r.count ++ (p ++ (spaced r.values ++ (q ++ (10 ∷ row_lines r.rows r.rule))))))
head_to o p q r (hn, hv, he, hf) =
    lits_to o _ _ (
      r.count,
      _,
      refl,
      hn,
      lits_to p _ _ (
        spaced r.values,
        _,
        refl,
        (r.values, hv, refl),
        lits_to q _ _
            (10, _, refl, refl, (row_lines r.rows r.rule, [], sym (append-nil (row_lines r.rows r.rule)), (r.rows, r.rule, he, hf, refl), refl)),
      ),
    )

head_from : (o p q w : List ℕ) → L (lits o (n num ∷ lits p (n vals ∷ lits q (t (is 10) ∷ n rest ∷ [])))) w
    → (r : Spelling) × Sound r × (w ≡ o ++ (r.count ++ (p ++ (spaced r.values ++ (q ++ (10 ∷ row_lines r.rows r.rule))))))
head_from o p q w l = one (lits_from o (n num ∷ lits p (n vals ∷ lits q (t (is 10) ∷ n rest ∷ []))) w l)
  where
    three : (c : List ℕ) (vs : List (List ℕ)) → Num c → AllInt vs → (x : List ℕ)
        → (u : List ℕ) × (x ≡ q ++ u) × L (t (is 10) ∷ n rest ∷ []) u
        → w ≡ o ++ (c ++ (p ++ (spaced vs ++ x)))
        → (r : Spelling) × Sound r × (w ≡ o ++ (r.count ++ (p ++ (spaced r.values ++ (q ++ (10 ∷ row_lines r.rows r.rule))))))
    three c vs hc hvs x (u, e, (b, u1, e1, hb, (y, z, e2, (es, f, hes, hf, e3), e4))) ew =
        let nil = append-nil y in (record { count = c; values = vs; rows = es; rule = f }, (hc, hvs, hes, hf), cc)

    two : (c : List ℕ) → Num c → (x : List ℕ) → (u : List ℕ) × (x ≡ p ++ u) × L (n vals ∷ lits q (t (is 10) ∷ n rest ∷ [])) u
        → w ≡ o ++ (c ++ x)
        → (r : Spelling) × Sound r × (w ≡ o ++ (r.count ++ (p ++ (spaced r.values ++ (q ++ (10 ∷ row_lines r.rows r.rule))))))
    two c hc x (u, e, (y, z, e1, (vs, hvs, e2), k)) ew = three c vs hc hvs z (lits_from q (t (is 10) ∷ n rest ∷ []) z k) cc

    one : (u : List ℕ) × (w ≡ o ++ u) × L (n num ∷ lits p (n vals ∷ lits q (t (is 10) ∷ n rest ∷ []))) u
        → (r : Spelling) × Sound r × (w ≡ o ++ (r.count ++ (p ++ (spaced r.values ++ (q ++ (10 ∷ row_lines r.rows r.rule))))))
    one (u, e, (c, x, e1, hc, k)) = two c hc x (lits_from p (n vals ∷ lits q (t (is 10) ∷ n rest ∷ [])) x k) cc

pub tracks : Tracks Spelled (start ∷ [])
tracks = record {
  to = λ v o. elim o.1 [ inl e ↦ head_from (codes "(open ") (codes " (") (codes "))") v (subst (λ (y : List Sym). L y v) e o.2) | inr h ↦ absurd h ];
  from = λ v q. (start, inl refl, subst (L start) (sym q.2) (head_to (codes "(open ") (codes " (") (codes "))") q.0 q.1));
}

-- a rule alone
rule_from : (w : List ℕ) → L (n (form 15) ∷ []) w → SpelledRule w
rule_from w (u, v, e, (f, h, eu), ev) = let nil = append-nil u in (f, h, cc)

rule_to : (w : List ℕ) → SpelledRule w → L (n (form 15) ∷ []) w
rule_to w (f, h, e) = (w, [], sym (append-nil w), (f, h, e), refl)

pub tracks_rule : Tracks SpelledRule ((n (form 15) ∷ []) ∷ [])
tracks_rule = record {
  to = λ v o. elim o.1 [ inl e ↦ rule_from v (subst (λ (y : List Sym). L y v) e o.2) | inr h ↦ absurd h ];
  from = λ v q. (n (form 15) ∷ [], inl refl, rule_to v q);
}
