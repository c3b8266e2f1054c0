-- A system in levels has a listing.
use Rattle.std.proofs.Common.{◌≡◌, ℕ, zero, suc, ◌+◌, ◌-◌, ◌<◌, ◌≤◌, Bool, true, false, List, [], ◌∷◌, ◌++◌, length, Some, None, Option, refl, subst, ⊎_elim, arith}
use Rattle.std.proofs.lemmas.List.{length_push}
use Rattle.std.proofs.lemmas.Bool.{or_cases, or_parts}
use Rattle.std.proofs.Math.Nat.{eq-or-lt_of_le}
use Rattle.explore.specs.System.{System, Steps}
use Rattle.explore.specs.Rows.{Row, At, Has, Lacks, row_of, row_at, first_row}
use Rattle.explore.specs.Listing.{Listing}
use Rattle.explore.specs.Levels.{Levelled, Tells}
use Rattle.explore.specs.Rounds.{listed, put_unless, put, tried, swept, rounds, computed}
use Rattle.explore.specs.Upto.{Upto}
use Rattle.explore.proofs.Places.{at_split, row-at}
use Rattle.explore.proofs.Advance.{start, none, seen, new, turn, listing}

module _ {N : Type 0} (same : N → N → Bool) (t : Tells same) where
  listed_has : (rows : List (Row N)) (m : N) → listed same rows m ≡ true → Has rows m
  listed_has [] m h = let z : ◌≡◌ {A = ℕ} 0 1 = cc in absurd (omega arith)
  listed_has (r ∷ rows) m h = ⊎_elim
      (λ e. record { place = 0; row = r; at = (omega arith, refl); is = t.equal r.node m e })
      (λ e. let w = listed_has rows m e in record { place = suc w.place; row = w.row; at = (let l = w.at.0 in omega arith, w.at.1); is = w.is })
      (or_cases (same r.node m) (listed same rows m) h)

  listed_lacks : (rows : List (Row N)) (m : N) → listed same rows m ≡ false → Lacks rows m
  listed_lacks [] m h x s u e = omega arith
  listed_lacks (r ∷ rows) m h zero s u e =
      let o = or_parts (same r.node m) (listed same rows m) h in
      let k = t.self m in
      let z : ◌≡◌ {A = ℕ} 0 1 = cc in omega arith
  listed_lacks (r ∷ rows) m h (suc x) s u e = listed_lacks rows m (or_parts (same r.node m) (listed same rows m) h).1 x s (omega arith, u.1) e

module _ {N : Type 0} (S : System N) (same : N → N → Bool) (top : ℕ) (v : Levelled S top) (t : Tells same) where
  -- the rows from n on are at level l or above
  abbrev From : List (Row N) → ℕ → ℕ → Type 0
  From rows n l = (j : ℕ) (r : Row N) → n ≤ j → At rows j r → l ≤ v.level r.node

  abbrev Good : List (Row N) → Type 0
  Good rows = (j : ℕ) (r : Row N) → At rows j r → v.good r.node ≡ true

  -- a round that expands the rows below n, which are at level l or below
  record Round (rows : List (Row N)) (i a n l : ℕ) : Type 0 where
    upto : Upto S rows i a
    low : From rows i l
    high : From rows n (l + 1)
    fine : Good rows
    room : n ≤ length rows

  from_push : (rows : List (Row N)) (m : N) (i a n l : ℕ) → From rows n l → l ≤ v.level m → From (rows ++ row_of m i a ∷ []) n l
  from_push rows m i a n l h k j r o u = ⊎_elim (λ w. h j r o w) (λ (q : (j ≡ length rows) × (r ≡ row_of m i a)). rw q.1 k) (at_split rows (row_of m i a) j r u)

  good_push : (rows : List (Row N)) (m : N) (i a : ℕ) → Good rows → v.good m ≡ true → Good (rows ++ row_of m i a ∷ [])
  good_push rows m i a h k j r u = ⊎_elim (λ w. h j r w) (λ (q : (j ≡ length rows) × (r ≡ row_of m i a)). rw q.1 k) (at_split rows (row_of m i a) j r u)

  put_unless_lem : (rows : List (Row N)) (i a n l : ℕ) (m : N) → Round rows i a n l → i < n → Steps S (row_at S rows i).node a m →
      (b : Bool) → listed same rows m ≡ b → Round (put_unless b rows (row_of m i a)) i (a + 1) n l
  put_unless_lem rows i a n l m h b e true q =
      let k = h.room in
      record { upto = seen S h.upto (row-at S rows i (omega arith)) e.1 (listed_has same t rows m q); low = h.low; high = h.high; fine = h.fine; room = h.room }
  put_unless_lem rows i a n l m h b e false q =
      let k = h.room in
      let u = row-at S rows i (omega arith) in
      let up = h.low i (row_at S rows i) (omega arith) u in
      let ok = h.fine i (row_at S rows i) u in
      let d = v.level_next (row_at S rows i).node m a ok e in
      record {
        upto = new S h.upto u e (listed_lacks same t rows m q);
        low = from_push rows m i a i l h.low (omega arith);
        high = from_push rows m i a n (l + 1) h.high (omega arith);
        fine = good_push rows m i a h.fine (v.good_next (row_at S rows i).node m a ok e);
        room = simp length_push (omega arith);
      }

  put_round : (rows : List (Row N)) (i a n l : ℕ) → Round rows i a n l → i < n → a < S.labels → (o : Option N) → S.next (row_at S rows i).node a ≡ o →
      Round (put same rows o i a) i (a + 1) n l
  put_round rows i a n l h b c None e =
      let k = h.room in
      record { upto = none S h.upto (row-at S rows i (omega arith)) e; low = h.low; high = h.high; fine = h.fine; room = h.room }
  put_round rows i a n l h b c (Some m) e = put_unless_lem rows i a n l m h b (c, e) (listed same rows m) refl

  tried_round : (k : ℕ) (rows : List (Row N)) (i a n l : ℕ) → Round rows i a n l → i < n → a + k ≡ S.labels → Round (tried S same rows i a k) i S.labels n l
  tried_round zero rows i a n l h b e = subst (λ (x : ℕ). Round rows i x n l) (omega arith) h
  tried_round (suc k) rows i a n l h b e =
      tried_round k (put same rows (S.next (row_at S rows i).node a) i a) i (a + 1) n l (put_round rows i a n l h b (omega arith) (S.next (row_at S rows i).node a) refl) b (omega arith)

  swept_round : (k : ℕ) (rows : List (Row N)) (i n l : ℕ) → Round rows i 0 n l → i + k ≡ n → Round (swept S same rows i k) n 0 n l
  swept_round zero rows i n l h e = subst (λ (x : ℕ). Round rows x 0 n l) (omega arith) h
  swept_round (suc k) rows i n l h e =
      let u = tried_round S.labels rows i 0 n l h (omega arith) (omega arith) in
      let w = u.room in
      swept_round k (tried S same rows i 0 S.labels) (i + 1) n l
      record { upto = turn S u.upto (omega arith) (omega arith); low = (λ j r o p. u.low j r (omega arith) p); high = u.high; fine = u.fine; room = u.room } (omega arith)

  rounds_end : (k : ℕ) (rows : List (Row N)) (i l : ℕ) → Upto S rows i 0 → From rows i l → Good rows → l + k ≡ top + 1 → Listing S (rounds S same rows i k)
  rounds_end zero rows i l g h f e = listing S (subst (λ (x : ℕ). Upto S rows x 0) (⊎_elim
      (λ (q : i ≡ length rows). q)
      (λ (b : i < length rows). let p = h i (row_at S rows i) (omega arith) (row-at S rows i b) in absurd (omega (arith, v.level_top (row_at S rows i).node (f i (row_at S rows i) (row-at S rows i b))))) (eq-or-lt_of_le g.within)) g)
  rounds_end (suc k) rows i l g h f e =
      let w = g.within in
      let u = swept_round (length rows - i) rows i (length rows) l (record { upto = g; low = h; high = (λ j r o p. absurd (omega arith)); fine = f; room = omega arith }) (omega arith) in
      rounds_end k (swept S same rows i (length rows - i)) (length rows) (l + 1) u.upto u.high u.fine (omega arith)

  first_good : Good (first_row S ∷ [])
  first_good zero r u = rw u.1 v.good_first
  first_good (suc j) r u = absurd (omega arith)

  pub exists : Listing S (computed S same top)
  exists = rounds_end (top + 1) (first_row S ∷ []) 0 0 (start S) (λ j r o u. omega arith) first_good (omega arith)
