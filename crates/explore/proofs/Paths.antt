-- A listing has exactly the nodes that can be reached, by their first paths.
use Rattle.std.proofs.Common.{◌≡◌, ℕ, zero, suc, ◌<◌, ◌≤◌, List, [], ◌∷◌, reverse, length, sym, ap, ◌∙◌, subst, inl, inr, ⊎_elim, arith}
use mathlib.Core.List.{reverse_aux}
use Rattle.std.proofs.lemmas.Bool.{cases_lt}
use Rattle.std.proofs.Math.Nat.{eq-or-lt_of_le}
use native.Mathlib.Decide.{dec_lt}
use Rattle.explore.specs.System.{System, Steps, Goes, here, along}
use Rattle.explore.specs.Rows.{Row, Before, row_at}
use Rattle.explore.specs.Listing.{Found, Listing}
use Rattle.explore.specs.Paths.{Reaches}
use Rattle.explore.proofs.Places.{row-at, is_row_at, NoLater, not-before}
use Rattle.explore.proofs.Words.{Lt, Le, lt-le, le_cons, lt_sooner, le_sooner}
use Rattle.explore.proofs.Back.{way, up, way_none, way_more, way_enough}

-- the labels of p, from the last to the first, lead from the first node to n
data Leads {N : Type 0} (S : System N) : List ℕ → N → Type 0 where
  root : Leads S [] S.first
  step : {p : List ℕ} {m n : N} {a : ℕ} → Leads S p m → Steps S m a n → Leads S (a ∷ p) n

module _ {N : Type 0} (S : System N) where
  leads_goes : {p q : List ℕ} {m n : N} → Leads S p m → Goes S m q n → Goes S S.first (reverse_aux p q) n
  leads_goes root g = g
  leads_goes (step l e) g = leads_goes l (along e g)

  goes_leads : {m n : N} {p : List ℕ} → Goes S m p n → {q : List ℕ} → Leads S q m → Leads S (reverse_aux p q) n
  goes_leads here l = l
  goes_leads (along e g) l = goes_leads g (step l e)

  module _ (rows : List (Row N)) (v : Found S rows) where
    abbrev W : ℕ → ℕ → List ℕ
    W f j = way S rows v f j

    way_less : (f j l : ℕ) → l ≤ f → j < l → l < length rows → Lt (W f j) (W f l)
    way_less zero j l h k b = absurd (omega arith)
    way_less (suc f) zero l h k b = rw (way_none S rows v (suc f), way_more S rows v f l k b) tt
    way_less (suc f) (suc j) l h k b =
        let r = row_at S rows (suc j) in
        let s = row_at S rows l in
        let o : Before r.from r.label s.from s.label = v.rising (suc j) l r s (omega arith) k (row-at S rows (suc j) (omega arith)) (row-at S rows l b) in
        let u = up S rows v l (omega arith) b in
        let d : Lt (r.label ∷ W f r.from) (s.label ∷ W f s.from) =
        ⊎_elim (λ e. inr (ap (λ (i : ℕ). W f i) e, omega arith))
        (λ lt. inl (way_less f r.from s.from (omega arith) lt (omega arith))) (eq-or-lt_of_le o.0) in
        rw (way_more S rows v f (suc j) (omega arith) (omega arith), way_more S rows v f l (omega arith) b) d

    leads : (f j : ℕ) → j ≤ f → j < length rows → Leads S (W f j) (row_at S rows j).node
    leads f zero h b = rw (way_none S rows v f) (subst (λ (n : N). Leads S [] n) (ap (λ (ρ : Row N). ρ.node) (sym (v.root (row_at S rows 0) (row-at S rows 0 b)))) root)
    leads zero (suc j) h b = absurd (omega arith)
    leads (suc f) (suc j) h b =
        let u = up S rows v (suc j) (omega arith) b in
        let r = row_at S rows (suc j) in
        rw (way_more S rows v f (suc j) (omega arith) b)
        (step (leads f r.from (omega arith) (omega arith))
        (v.stepped (suc j) r (row_at S rows r.from) (omega arith) (row-at S rows (suc j) b) (row-at S rows r.from (omega arith))))

    rows_less : (j l : ℕ) → j < l → l < length rows → Lt (W j j) (W l l)
    rows_less j l h b = rw (way_enough S rows v j l j (omega arith) (omega arith)) (way_less l j l (omega arith) h b)

    no_later : (x y b : ℕ) (p : List ℕ) → x < length rows → y < length rows → (0 < x → NoLater (row_at S rows x).from (row_at S rows x).label y b) →
        Le (W y y) p → Le (W x x) (b ∷ p)
    no_later zero y b p hx hy h k = rw (way_none S rows v zero) (inr tt)
    no_later (suc x) y b p hx hy h k =
        let r = row_at S rows (suc x) in
        let u = up S rows v (suc x) (omega arith) hx in
        let n : NoLater r.from r.label y b = h (omega arith) in
        let same : W x r.from ≡ W y r.from = way_enough S rows v x y r.from (omega arith) n.0 in
        let d : Le (r.label ∷ W y r.from) (b ∷ p) =
        ⊎_elim (λ (e : r.from ≡ y). le_cons r.label b (W y r.from) p (omega arith) (subst (λ (i : ℕ). Le (W y i) p) (sym e) k))
        (λ lt. inr (inl (lt-le (W y r.from) (W y y) p (way_less y r.from y (omega arith) lt hy) k))) (eq-or-lt_of_le n.0) in
        rw (way_more S rows v x (suc x) (omega arith) hx, same) d

  -- where a node is listed whose path comes no later than p
  record Least (rows : List (Row N)) (v : Found S rows) (p : List ℕ) (n : N) : Type 0 where
    place : ℕ
    within : place < length rows
    is : (row_at S rows place).node ≡ n
    le : Le (W rows v place place) p

  module _ (rows : List (Row N)) (all : Listing S rows) where
    v : Found S rows
    v = all.found

    least : {p : List ℕ} {n : N} → Leads S p n → Least rows v p n
    least root = record { place = 0; within = all.some; is = ap (λ (ρ : Row N). ρ.node) (v.root (row_at S rows 0) (row-at S rows 0 all.some)); le = inl (way_none S rows v zero) }
    least (step {p = p} {m = m} {n = n} {a = b} l e) =
        let y = least l in
        let r = row_at S rows y.place in
        let e' : Steps S r.node b n = rw y.is e in
        let w = all.closed y.place b r n (row-at S rows y.place y.within) e' in
        let q : w.row ≡ row_at S rows w.place = is_row_at S rows w.place w.row w.at in
        let early : 0 < w.place → NoLater w.row.from w.row.label y.place b = λ pos.
        not-before y.place b w.row.from w.row.label (λ bf.
        v.earliest w.place y.place b w.row r pos w.at (row-at S rows y.place y.within) bf (rw w.is e')) in
        record {
          place = w.place;
          within = w.at.0;
          is = ap (λ (ρ : Row N). ρ.node) (sym q) ∙ w.is;
          le = no_later rows v w.place y.place b p w.at.0 y.within
              (subst (λ (ρ : Row N). 0 < w.place → NoLater ρ.from ρ.label y.place b) q early) y.le;
        }

    least_of : (p : List ℕ) (n : N) → Goes S S.first p n → Least rows v (reverse p) n
    least_of p n g = least (goes_leads g root)

    one_place : (j l : ℕ) → j < length rows → l < length rows → (row_at S rows j).node ≡ (row_at S rows l).node → j ≡ l
    one_place j l hj hl e = go (dec_lt j l) (dec_lt l j)
      where
        go : Dec (j < l) → Dec (l < j) → j ≡ l
        go (yes h) d = absurd (v.once j l (row_at S rows j) (row_at S rows l) h (row-at S rows j hj) (row-at S rows l hl) e)
        go (no h) (yes k) = absurd (v.once l j (row_at S rows l) (row_at S rows j) k (row-at S rows l hl) (row-at S rows j hj) (sym e))
        go (no h) (no k) = omega arith

    pub reaches : Reaches S rows
    unfolding way
    reaches =
        record {
          leads = λ j b. leads_goes (leads rows v j j (omega arith) b) here;
          reached = λ p n g. let w = least_of p n g in
              record { place = w.place; row = row_at S rows w.place; at = row-at S rows w.place w.within; is = w.is };
          once = λ j l h b e. v.once j l (row_at S rows j) (row_at S rows l) h (row-at S rows j (omega arith)) (row-at S rows l b) e;
          soonest = λ j p b g. let w = least_of p (row_at S rows j).node g in
              le_sooner (W rows v j j) p (subst (λ (x : ℕ). Le (W rows v x x) (reverse p)) (one_place w.place j w.within b w.is) w.le);
          order = λ j l h b. lt_sooner (W rows v j j) (W rows v l l) (rows_less rows v j l h b);
          best = λ P j b none p n g pn. let w = least_of p n g in
              le_sooner (W rows v j j) p (⊎_elim
              (λ lt. absurd (none w.place lt (ap P w.is ∙ pn)))
              (λ lt. ⊎_elim (λ e. subst (λ (x : ℕ). Le (W rows v x x) (reverse p)) (sym e) w.le)
              (λ l. inr (lt-le (W rows v j j) (W rows v w.place w.place) (reverse p) (rows_less rows v j w.place l w.within) w.le)) (eq-or-lt_of_le lt))
              (cases_lt w.place j));
        }
