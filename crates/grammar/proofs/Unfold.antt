-- The texts of a name are those of its productions, and the empty one where it can be left out.
use Rattle.std.proofs.Common.{◌≡◌, ℕ, zero, suc, T, ◌⊎◌, List, [], ◌∷◌, ◌++◌, map, codes, sym, refl, ap, ◌∙◌, subst, inl, inr, append-nil}
use Rattle.grammar.specs.Spelling.{Among, Digits, Positive, Num, Int, Term, cmp, tag, un, bin, cmps, tags, uns, bins, Fits, shown, Row, at, lock, ats, locks, row_line, AllFit, tails, row_lines}
use Rattle.grammar.specs.Machine.{is, any, some, Name, more, num, int, tail, vals, rest, form, Sym, t, n, Prod, cmp_p, tag_p, un_p, bin_p, at_p, lock_p, rule_p, leaf_ps, inner_ps, event_ps, prods, nullable}
use Rattle.grammar.proofs.Language.{lang, L, row, By, Unfolds, among_map, among_unmap, among_left, among_right, among_cases, lits_to, lits_from}

by_left : (ps qs : List Prod) (w : List ℕ) → By ps w → By (ps ++ qs) w
by_left ps qs w (p, m, l) = (p, among_left p ps qs m, l)

by_right : (ps qs : List Prod) (w : List ℕ) → By qs w → By (ps ++ qs) w
by_right ps qs w (p, m, l) = (p, among_right p ps qs m, l)

by_cases : (ps qs : List Prod) (w : List ℕ) → By (ps ++ qs) w → By ps w ⊎ By qs w
by_cases ps qs w (p, m, l) = elim (among_cases p ps qs m) [ inl k ↦ inl (p, k, l) | inr k ↦ inr (p, k, l) ]

by_map : (f : List ℕ → Prod) (w : List ℕ) (ws : List (List ℕ)) (u : List ℕ) → Among w ws → L (row (f w)) u → By (map f ws) u
by_map f w ws u m l = (f w, among_map f w ws m, l)

by_unmap : (f : List ℕ → Prod) (ws : List (List ℕ)) (u : List ℕ) → By (map f ws) u → (w : List ℕ) × Among w ws × L (row (f w)) u
by_unmap f ws u (p, m, l) =
    let r = among_unmap f p ws m in (r.0, r.1, subst (λ (q : Prod). L (row q) u) r.2 l)

-- formulas
cmp_to : (w x c : List ℕ) → Among w cmps → Num x → Int c → By (map cmp_p cmps) (shown (cmp w x c))
cmp_to w x c m hx hc =
    by_map cmp_p w cmps _ m
    (40, _, refl, refl, lits_to w _ _ (32, _, refl, refl, (x, _, refl, hx, (32, _, refl, refl, (c, _, refl, hc, (41, _, refl, refl, refl))))))

tag_to : (w k : List ℕ) → Among w tags → Num k → By (map tag_p tags) (shown (tag w k))
tag_to w k m hk =
    by_map tag_p w tags _ m
    (40, _, refl, refl, lits_to w _ _ (32, _, refl, refl, (k, _, refl, hk, (41, _, refl, refl, refl))))

un_to : (d : ℕ) (w : List ℕ) (f : Term) → Among w uns → Fits d f → By (map (un_p d) uns) (shown (un w f))
un_to d w f m hf =
    by_map (un_p d) w uns _ m
    (40, _, refl, refl, lits_to w _ _ (32, _, refl, refl, (shown f, _, refl, (f, hf, refl), (41, _, refl, refl, refl))))

bin_to : (d : ℕ) (w : List ℕ) (f g : Term) → Among w bins → Fits d f → Fits d g → By (map (bin_p d) bins) (shown (bin w f g))
bin_to d w f g m hf hg =
    by_map (bin_p d) w bins _ m
    (40, _, refl, refl, lits_to w _ _ (32, _, refl, refl, (shown f, _, refl, (f, hf, refl), (32, _, refl, refl, (shown g, _, refl, (g, hg, refl), (41, _, refl, refl, refl))))))

leaf_to : (d : ℕ) (w : List ℕ) → By leaf_ps w → By (prods (form d)) w
leaf_to zero w h = h
leaf_to (suc d) w h = by_left leaf_ps (inner_ps d) w h

form_to : (d : ℕ) (f : Term) → Fits d f → By (prods (form d)) (shown f)
form_to d (cmp w x c) (m, hx, hc) = leaf_to d _ (by_left (map cmp_p cmps) (map tag_p tags) _ (cmp_to w x c m hx hc))
form_to d (tag w k) (m, hk) = leaf_to d _ (by_right (map cmp_p cmps) (map tag_p tags) _ (tag_to w k m hk))
form_to zero (un w f) h = absurd h
form_to (suc d) (un w f) (m, hf) = by_right leaf_ps (inner_ps d) _ (by_left (map (un_p d) uns) (map (bin_p d) bins) _ (un_to d w f m hf))
form_to zero (bin w f g) h = absurd h
form_to (suc d) (bin w f g) (m, hf, hg) =
    by_right leaf_ps (inner_ps d) _ (by_right (map (un_p d) uns) (map (bin_p d) bins) _ (bin_to d w f g m hf hg))

-- back
cmp_row : (w s : List ℕ) → L (row (cmp_p w)) s → (x : List ℕ) × (c : List ℕ) × Num x × Int c × (s ≡ shown (cmp w x c))
cmp_row w s l = go (lits_from (40 ∷ w) _ s l)
  where
    go : (u : List ℕ) × (s ≡ (40 ∷ w) ++ u) × L (t (is 32) ∷ n num ∷ t (is 32) ∷ n int ∷ t (is 41) ∷ []) u
        → (x : List ℕ) × (c : List ℕ) × Num x × Int c × (s ≡ shown (cmp w x c))
    go (u, e, (b1, u1, e1, h1, (x, v1, e2, hx, (b2, u2, e3, h2, (c, v2, e4, hc, (b3, u3, e5, h3, e6)))))) = (x, c, hx, hc, cc)

tag_row : (w s : List ℕ) → L (row (tag_p w)) s → (k : List ℕ) × Num k × (s ≡ shown (tag w k))
tag_row w s l = go (lits_from (40 ∷ w) _ s l)
  where
    go : (u : List ℕ) × (s ≡ (40 ∷ w) ++ u) × L (t (is 32) ∷ n num ∷ t (is 41) ∷ []) u → (k : List ℕ) × Num k × (s ≡ shown (tag w k))
    go (u, e, (b1, u1, e1, h1, (x, v1, e2, hx, (b3, u3, e5, h3, e6)))) = (x, hx, cc)

un_row : (d : ℕ) (w s : List ℕ) → L (row (un_p d w)) s → (f : Term) × Fits d f × (s ≡ shown (un w f))
un_row d w s l = go (lits_from (40 ∷ w) _ s l)
  where
    go : (u : List ℕ) × (s ≡ (40 ∷ w) ++ u) × L (t (is 32) ∷ n (form d) ∷ t (is 41) ∷ []) u → (f : Term) × Fits d f × (s ≡ shown (un w f))
    go (u, e, (b1, u1, e1, h1, (x, v1, e2, (f, hf, ef), (b3, u3, e5, h3, e6)))) = (f, hf, cc)

bin_row : (d : ℕ) (w s : List ℕ) → L (row (bin_p d w)) s → (f : Term) × (g : Term) × Fits d f × Fits d g × (s ≡ shown (bin w f g))
bin_row d w s l = go (lits_from (40 ∷ w) _ s l)
  where
    go : (u : List ℕ) × (s ≡ (40 ∷ w) ++ u) × L (t (is 32) ∷ n (form d) ∷ t (is 32) ∷ n (form d) ∷ t (is 41) ∷ []) u
        → (f : Term) × (g : Term) × Fits d f × Fits d g × (s ≡ shown (bin w f g))
    go (u, e, (b1, u1, e1, h1, (x, v1, e2, (f, hf, ef), (b2, u2, e3, h2, (c, v2, e4, (g, hg, eg), (b3, u3, e5, h3, e6)))))) = (f, g, hf, hg, cc)

cmp_from : (d : ℕ) (s : List ℕ) → By (map cmp_p cmps) s → lang (form d) s
cmp_from d s h =
    let r = by_unmap cmp_p cmps s h in
    let q = cmp_row r.0 s r.2 in
    (cmp r.0 q.0 q.1, (r.1, q.2, q.3), q.4)

tag_from : (d : ℕ) (s : List ℕ) → By (map tag_p tags) s → lang (form d) s
tag_from d s h =
    let r = by_unmap tag_p tags s h in
    let q = tag_row r.0 s r.2 in
    (tag r.0 q.0, (r.1, q.1), q.2)

un_from : (d : ℕ) (s : List ℕ) → By (map (un_p d) uns) s → lang (form (suc d)) s
un_from d s h =
    let r = by_unmap (un_p d) uns s h in
    let q = un_row d r.0 s r.2 in
    (un r.0 q.0, (r.1, q.1), q.2)

bin_from : (d : ℕ) (s : List ℕ) → By (map (bin_p d) bins) s → lang (form (suc d)) s
bin_from d s h =
    let r = by_unmap (bin_p d) bins s h in
    let q = bin_row d r.0 s r.2 in
    (bin r.0 q.0 q.1, (r.1, q.2, q.3), q.4)

leaf_from : (d : ℕ) (s : List ℕ) → By leaf_ps s → lang (form d) s
leaf_from d s h = elim (by_cases (map cmp_p cmps) (map tag_p tags) s h) [ inl k ↦ cmp_from d s k | inr k ↦ tag_from d s k ]

form_from : (d : ℕ) (s : List ℕ) → By (prods (form d)) s → lang (form d) s
form_from zero s h = leaf_from zero s h
form_from (suc d) s h =
    elim (by_cases leaf_ps (inner_ps d) s h) [
      | inl k ↦ leaf_from (suc d) s k
      | inr k ↦ elim (by_cases (map (un_p d) uns) (map (bin_p d) bins) s k) [ inl i ↦ un_from d s i | inr i ↦ bin_from d s i ]
    ]

-- row_lines
at_to : (w i s v m : List ℕ) → Among w ats → Num i → Num s → Int v → lang rest m → By (map at_p ats) (row_line (at w i s v) m)
at_to w i s v m a hi hs hv hm =
    by_map at_p w ats _ a (
      40,
      _,
      refl,
      refl,
      lits_to w _ _ (
        32,
        _,
        refl,
        refl,
        (
          i,
          _,
          refl,
          hi,
          (
            32,
            _,
            refl,
            refl,
            (
              s,
              _,
              refl,
              hs,
              (
                32,
                _,
                refl,
                refl,
                (
                  v,
                  _,
                  refl,
                  hv,
                  (41, _, refl, refl, (10, _, refl, refl, (m, [], sym (append-nil m), hm, refl))),
                ),
              ),
            ),
          ),
        ),
      ),
    )

lock_to : (w i s m : List ℕ) → Among w locks → Num i → Num s → lang rest m → By (map lock_p locks) (row_line (lock w i s) m)
lock_to w i s m a hi hs hm =
    by_map lock_p w locks _ a (
      40,
      _,
      refl,
      refl,
      lits_to w _ _ (
        32,
        _,
        refl,
        refl,
        (
          i,
          _,
          refl,
          hi,
          (
            32,
            _,
            refl,
            refl,
            (
              s,
              _,
              refl,
              hs,
              (41, _, refl, refl, (10, _, refl, refl, (m, [], sym (append-nil m), hm, refl))),
            ),
          ),
        ),
      ),
    )

rule_to : (w : List ℕ) (f : Term) → Fits 14 f → L (row (rule_p w)) (40 ∷ (w ++ (32 ∷ (shown f ++ (41 ∷ 10 ∷ [])))))
rule_to w f hf = (40, _, refl, refl, lits_to w _ _ (32, _, refl, refl, (shown f, _, refl, (f, hf, refl), (41, _, refl, refl, (10, _, refl, refl, refl)))))

rest_to : (es : List Row) (f : Term) → AllFit es → Fits 14 f → By (prods rest) (row_lines es f)
rest_to [] f h hf = (rule_p (codes "rule"), inl refl, rule_to (codes "rule") f hf)
rest_to (at w i s v ∷ es) f ((a, hi, hs, hv), h) hf =
    by_right (rule_p (codes "rule") ∷ []) event_ps _ (by_left (map at_p ats) (map lock_p locks) _ (at_to w i s v (row_lines es f) a hi hs hv (es, f, h, hf, refl)))
rest_to (lock w i s ∷ es) f ((a, hi, hs), h) hf =
    by_right (rule_p (codes "rule") ∷ []) event_ps _ (by_right (map at_p ats) (map lock_p locks) _ (lock_to w i s (row_lines es f) a hi hs (es, f, h, hf, refl)))

at_row : (w q : List ℕ) → Among w ats → L (row (at_p w)) q → lang rest q
at_row w q a l = go (lits_from (40 ∷ w) _ q l)
  where
    go : (u : List ℕ) × (q ≡ (40 ∷ w) ++ u) × L (t (is 32) ∷ n num ∷ t (is 32) ∷ n num ∷ t (is 32) ∷ n int ∷ t (is 41) ∷ t (is 10) ∷ n rest ∷ []) u → lang rest q
    go (u, e, (b1, u1, e1, h1, (i, v1, e2, hi, (b2, u2, e3, h2, (s, v2, e4, hs, (b3, u3, e5, h3, (v, v3, e6, hv, (b4, u4, e7, h4, (b5, u5, e8, h5, (m, v5, e9, (es, f, hes, hf, em), e10)))))))))) =
        let nil = append-nil m in (at w i s v ∷ es, f, ((a, hi, hs, hv), hes), hf, cc)

lock_row : (w q : List ℕ) → Among w locks → L (row (lock_p w)) q → lang rest q
lock_row w q a l = go (lits_from (40 ∷ w) _ q l)
  where
    go : (u : List ℕ) × (q ≡ (40 ∷ w) ++ u) × L (t (is 32) ∷ n num ∷ t (is 32) ∷ n num ∷ t (is 41) ∷ t (is 10) ∷ n rest ∷ []) u → lang rest q
    go (u, e, (b1, u1, e1, h1, (i, v1, e2, hi, (b2, u2, e3, h2, (s, v2, e4, hs, (b4, u4, e7, h4, (b5, u5, e8, h5, (m, v5, e9, (es, f, hes, hf, em), e10)))))))) =
        let nil = append-nil m in (lock w i s ∷ es, f, ((a, hi, hs), hes), hf, cc)

rule_row : (w q : List ℕ) → L (row (rule_p w)) q → (f : Term) × Fits 14 f × (q ≡ 40 ∷ (w ++ (32 ∷ (shown f ++ (41 ∷ 10 ∷ [])))))
rule_row w q l = go (lits_from (40 ∷ w) _ q l)
  where
    go : (u : List ℕ) × (q ≡ (40 ∷ w) ++ u) × L (t (is 32) ∷ n (form 14) ∷ t (is 41) ∷ t (is 10) ∷ []) u
        → (f : Term) × Fits 14 f × (q ≡ 40 ∷ (w ++ (32 ∷ (shown f ++ (41 ∷ 10 ∷ [])))))
    go (u, e, (b1, u1, e1, h1, (i, v1, e2, (f, hf, ef), (b4, u4, e7, h4, (b5, u5, e8, h5, e10))))) = (f, hf, cc)

event_from : (q : List ℕ) → By event_ps q → lang rest q
event_from q h =
    elim (by_cases (map at_p ats) (map lock_p locks) q h) [
      | inl k ↦ let r = by_unmap at_p ats q k in at_row r.0 q r.1 r.2
      | inr k ↦ let r = by_unmap lock_p locks q k in lock_row r.0 q r.1 r.2
    ]

rest_from : (q : List ℕ) → By (prods rest) q → lang rest q
rest_from q (p, inl e, l) =
    let r = rule_row (codes "rule") q (subst (λ (x : Prod). L (row x) q) e l) in ([], r.0, tt, r.1, r.2)
rest_from q (p, inr m, l) = event_from q (p, m, l)

-- numbers
more_to : (k : ℕ) (w : List ℕ) → Digits k w → Unfolds (more k) w
more_to k [] h = inl (refl, tt)
more_to zero (d ∷ ds) h = absurd h
more_to (suc k) (d ∷ ds) (hd, h) = inr ((any, n (more k) ∷ []), inl refl, (d, ds, refl, hd, (ds, [], sym (append-nil ds), h, refl)))

positive_to : (w : List ℕ) (s : List Sym) (v : List ℕ) → Positive w → L s v → L (t some ∷ n (more 9) ∷ s) (w ++ v)
positive_to [] s v h k = absurd h
positive_to (d ∷ ds) s v (hd, h) k = (d, ds ++ v, refl, hd, (ds, v, refl, h, k))

positive_from : (w : List ℕ) (s : List Sym) → L (t some ∷ n (more 9) ∷ s) w → (u : List ℕ) × (v : List ℕ) × (w ≡ u ++ v) × Positive u × L s v
positive_from w s (b, u, e, hb, (ds, v, e', h, k)) = (b ∷ ds, v, e ∙ ap (λ (x : List ℕ). b ∷ x) e', (hb, h), k)

-- the productions of an integer before s
abbrev int_ps : List Sym → List Prod
int_ps s = (is 48, s) ∷ (some, n (more 9) ∷ s) ∷ (is 45, t some ∷ n (more 9) ∷ s) ∷ []

int_to : (w : List ℕ) (s : List Sym) (v : List ℕ) → Int w → L s v → By (int_ps s) (w ++ v)
int_to w s v (inl (inl e)) k = ((is 48, s), inl refl, (48, v, ap (λ (x : List ℕ). x ++ v) e, refl, k))
int_to w s v (inl (inr h)) k = ((some, n (more 9) ∷ s), inr (inl refl), positive_to w s v h k)
int_to w s v (inr (ds, e, h)) k =
    ((is 45, t some ∷ n (more 9) ∷ s), inr (inr (inl refl)), (45, ds ++ v, ap (λ (x : List ℕ). x ++ v) e, refl, positive_to ds s v h k))

int_from : (w : List ℕ) (s : List Sym) → By (int_ps s) w → (u : List ℕ) × (v : List ℕ) × (w ≡ u ++ v) × Int u × L s v
int_from w s (p, inl e, l) = zero_case (subst (λ (x : Prod). L (row x) w) e l)
  where
    zero_case : L (row (is 48, s)) w → (u : List ℕ) × (v : List ℕ) × (w ≡ u ++ v) × Int u × L s v
    zero_case (b, u, e1, e2, k) = (48 ∷ [], u, cc, inl (inl refl), k)
int_from w s (p, inr (inl e), l) =
    let r = positive_from w s (subst (λ (x : Prod). L (row x) w) e l) in (r.0, r.1, r.2, inl (inr r.3), r.4)
int_from w s (p, inr (inr (inl e)), l) = minus_case (subst (λ (x : Prod). L (row x) w) e l)
  where
    minus_case : L (row (is 45, t some ∷ n (more 9) ∷ s)) w → (u : List ℕ) × (v : List ℕ) × (w ≡ u ++ v) × Int u × L s v
    minus_case (b, u, e1, e2, k) =
        let r = positive_from u s k in (45 ∷ r.0, r.1, (let f = r.2 in cc), inr (r.0, refl, r.3), r.4)
int_from w s (p, inr (inr (inr h)), l) = absurd h

pub unfold_to : (x : Name) (w : List ℕ) → lang x w → Unfolds x w
unfold_to (more k) w h = more_to k w h
unfold_to num w (inl e) = inr ((is 48, []), inl refl, (48, [], e, refl, refl))
unfold_to num w (inr h) = inr ((some, n (more 9) ∷ []), inr (inl refl), rw append-nil at (positive_to w [] [] h refl))
unfold_to int w h = inr (rw append-nil at (int_to w [] [] h refl))
unfold_to tail w ([], h, e) = inl (e, tt)
unfold_to tail w (v ∷ vs, (hv, h), e) =
    inr ((is 32, n int ∷ n tail ∷ []), inl refl, (32, v ++ tails vs, e, refl, (v, tails vs, refl, hv, (tails vs, [], sym (append-nil (tails vs)), (vs, h, refl), refl))))
unfold_to vals w ([], h, e) = inl (e, tt)
unfold_to vals w (v ∷ vs, (hv, h), e) =
    inr (subst (λ (x : List ℕ). By (int_ps (n tail ∷ [])) x) (sym e) (int_to v (n tail ∷ []) (tails vs) hv (tails vs, [], sym (append-nil (tails vs)), (vs, h, refl), refl)))
unfold_to rest w (es, f, hes, hf, e) = inr (subst (λ (x : List ℕ). By (prods rest) x) (sym e) (rest_to es f hes hf))
unfold_to (form d) w (f, hf, e) = inr (subst (λ (x : List ℕ). By (prods (form d)) x) (sym e) (form_to d f hf))

more_row : (k : ℕ) (w : List ℕ) → L (row (any, n (more k) ∷ [])) w → Digits (suc k) w
more_row k w (b, u, e, hb, (ds, v, e1, h, e2)) =
    let nil = append-nil ds in
    let all : w ≡ b ∷ ds = cc in
    subst (λ (x : List ℕ). Digits (suc k) x) (sym all) (hb, h)

more_from : (k : ℕ) (w : List ℕ) → By (prods (more k)) w → Digits k w
more_from zero w (p, m, l) = absurd m
more_from (suc k) w (p, inl e, l) = more_row k w (subst (λ (x : Prod). L (row x) w) e l)
more_from (suc k) w (p, inr m, l) = absurd m

nothing_left : (P : List ℕ → Type 0) (w u v : List ℕ) → w ≡ u ++ v → v ≡ [] → P u → P w
nothing_left P w u v e z h = let nil = append-nil u in let all : w ≡ u = cc in subst P (sym all) h

num_from : (w : List ℕ) → By (prods num) w → Num w
num_from w (p, inl e, l) = zero_case (subst (λ (x : Prod). L (row x) w) e l)
  where
    zero_case : L (row (is 48, [])) w → Num w
    zero_case (b, u, e1, e2, e3) = inl (cc)
num_from w (p, inr (inl e), l) =
    let r = positive_from w [] (subst (λ (x : Prod). L (row x) w) e l) in inr (nothing_left Positive w r.0 r.1 r.2 r.4 r.3)
num_from w (p, inr (inr m), l) = absurd m

tail_row : (w : List ℕ) → L (row (is 32, n int ∷ n tail ∷ [])) w → lang tail w
tail_row w (b, u, e, hb, (v, u1, e1, hv, (y, z, e2, (vs, hvs, e3), e4))) = let nil = append-nil y in (v ∷ vs, (hv, hvs), cc)

tail_from : (w : List ℕ) → By (prods tail) w → lang tail w
tail_from w (p, inl e, l) = tail_row w (subst (λ (x : Prod). L (row x) w) e l)
tail_from w (p, inr m, l) = absurd m

vals_row : (w : List ℕ) → (u : List ℕ) × (v : List ℕ) × (w ≡ u ++ v) × Int u × L (n tail ∷ []) v → lang vals w
vals_row w (u, v, e, hu, (y, z, e2, (vs, hvs, e3), e4)) = let nil = append-nil y in (u ∷ vs, (hu, hvs), cc)

pub nil_from : (x : Name) → T (nullable x) → lang x []
nil_from (more k) h = tt
nil_from num h = absurd h
nil_from int h = absurd h
nil_from tail h = ([], tt, refl)
nil_from vals h = ([], tt, refl)
nil_from rest h = absurd h
nil_from (form d) h = absurd h

by_from : (x : Name) (w : List ℕ) → By (prods x) w → lang x w
by_from (more k) w h = more_from k w h
by_from num w h = num_from w h
by_from int w h = let r = int_from w [] h in nothing_left Int w r.0 r.1 r.2 r.4 r.3
by_from tail w h = tail_from w h
by_from vals w h = vals_row w (int_from w (n tail ∷ []) h)
by_from rest w h = rest_from w h
by_from (form d) w h = form_from d w h

pub unfold_from : (x : Name) (w : List ℕ) → Unfolds x w → lang x w
unfold_from x w (inl (e, h)) = subst (lang x) (sym e) (nil_from x h)
unfold_from x w (inr h) = by_from x w h
