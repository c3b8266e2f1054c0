-- One step of an exploration after the other.
use Rattle.std.proofs.Common.{◌≡◌, ℕ, ◌+◌, ◌<◌, ◌≤◌, List, [], ◌∷◌, ◌++◌, length, Some, None, ap, ◌∙◌, ⊎_elim, arith}
use Rattle.std.proofs.lemmas.List.{length_push}
use Rattle.explore.specs.System.{System, Steps}
use Rattle.explore.specs.Rows.{Row, At, Has, Lacks, Before, row_of, first_row}
use Rattle.explore.specs.Listing.{Found, Listing}
use Rattle.explore.specs.Upto.{Upto}
use Rattle.explore.proofs.Places.{at_old, at_new, at_same, at_split, at_down, split_before, before_turn}

module _ {N : Type 0} (S : System N) where
  pub start : Upto S (first_row S ∷ []) 0 0
  start =
      record {
        some = omega arith;
        within = omega arith;
        found = record {
          root = λ r u. u.1;
          earlier = λ j r p u. absurd (omega arith);
          stepped = λ j r q p u w. absurd (omega arith);
          earliest = λ j i a r s p u w b t. omega arith;
          rising = λ j l r s p h u w. absurd (omega arith);
          once = λ j l r s h u w e. omega arith;
        };
        past = λ j r p u. absurd (omega arith);
        closed = λ j b r m u t k. absurd (omega arith);
      }

  -- the step leads nowhere new
  advance : {rows : List (Row N)} {i a : ℕ} {r : Row N} → Upto S rows i a → At rows i r → ((m : N) → S.next r.node a ≡ Some m → Has rows m) → Upto S rows i (a + 1)
  advance {rows} {i} {a} {r} v h k =
      record {
        some = v.some;
        within = v.within;
        found = v.found;
        past = λ j s p u. let b = v.past j s p u in omega arith;
        closed = λ j b s m u t e. ⊎_elim (λ t'. v.closed j b s m u t' e) (λ q.
            k m (let same : r ≡ s = at_same rows i r s h (rw q.0 at u) in rw (same, ← q.1) e.1)) (split_before j b i a t);
      }

  pub none : {rows : List (Row N)} {i a : ℕ} {r : Row N} → Upto S rows i a → At rows i r → S.next r.node a ≡ None → Upto S rows i (a + 1)
  none v u e = advance v u (λ m e'. let z : ◌≡◌ {A = ℕ} 0 1 = cc in absurd (omega arith))

  pub seen : {rows : List (Row N)} {i a : ℕ} {r : Row N} {m : N} → Upto S rows i a → At rows i r → S.next r.node a ≡ Some m → Has rows m → Upto S rows i (a + 1)
  seen v u e w = advance v u (λ m e'. record { place = w.place; row = w.row; at = w.at; is = cc })

  -- the step leads to a new node
  pub new : {rows : List (Row N)} {i a : ℕ} {r : Row N} {m : N} → Upto S rows i a → At rows i r → Steps S r.node a m → Lacks rows m →
      Upto S (rows ++ row_of m i a ∷ []) i (a + 1)
  new {rows} {i} {a} {r} {m} v h st fresh =
      record {
        some = simp length_push (omega arith);
        within = simp length_push (omega arith);
        found = record {
          root = λ s u. ⊎_elim (λ o. f.root s o) (λ q. absurd (let k = v.some in omega arith)) (at_split rows y 0 s u);
          earlier = λ j s p u. ⊎_elim (λ o. f.earlier j s p o) (λ q. rw (q.0, q.1) h.0) (at_split rows y j s u);
          stepped = λ j s t p u w. ⊎_elim
              (λ o. let b = f.earlier j s p o in f.stepped j s t p o (at_down rows y s.from t (omega arith) w))
              (λ q. new_step s t q.1 w)
              (at_split rows y j s u);
          earliest = λ j l b s t p u w k e. ⊎_elim
              (λ o. let d = f.earlier j s p o in f.earliest j l b s t p o (at_down rows y l t (omega arith) w) k e)
              (λ q. new_first l b s t q.1 w k e)
              (at_split rows y j s u);
          rising = λ j n s t p w u z. ⊎_elim
              (λ o. ⊎_elim (λ x. f.rising j n s t p w x o) (λ q. absurd (omega arith)) (at_split rows y j s u))
              (λ q. ⊎_elim (λ x. rw q.1 (v.past j s p x)) (λ q'. absurd (omega arith)) (at_split rows y j s u))
              (at_split rows y n t z);
          once = λ j n s t w u z d. ⊎_elim
              (λ o. ⊎_elim (λ x. f.once j n s t w x o d) (λ q. absurd (omega arith)) (at_split rows y j s u))
              (λ q. ⊎_elim (λ x. fresh j s x (d ∙ ap (λ (ρ : Row N). ρ.node) q.1)) (λ q'. absurd (omega arith)) (at_split rows y j s u))
              (at_split rows y n t z);
        };
        past = λ j s p u. ⊎_elim (λ o. let b = v.past j s p o in omega arith) (λ q. rw q.1 (omega arith)) (at_split rows y j s u);
        closed = λ j b s m' u t e. ⊎_elim
            (λ o. ⊎_elim
            (λ t'. let w = v.closed j b s m' o t' e in
            record { place = w.place; row = w.row; at = at_old rows y w.place w.row w.at; is = w.is })
            (λ q. record {
              place = length rows;
              row = y;
              at = at_new rows y;
              is = (let same : r ≡ s = at_same rows i r s h (rw q.0 at o) in let b≡a = q.1 in let e₁ = e.1 in let e₂ = st.1 in cc);
            })
            (split_before j b i a t))
            (λ q. absurd (omega arith))
            (at_split rows y j s u);
      }
    where
      f : Found S rows
      f = v.found

      y : Row N
      y = row_of m i a

      new_step : (s t : Row N) → s ≡ y → At (rows ++ y ∷ []) s.from t → Steps S t.node s.label s.node
      new_step s t q w =
          let w' : At (rows ++ y ∷ []) i t = rw q at w in
          let same : r ≡ t = at_same rows i r t h (at_down rows y i t h.0 w') in
          rw (q, ← same) st

      new_first : (l b : ℕ) (s t : Row N) → s ≡ y → At (rows ++ y ∷ []) l t → Before l b s.from s.label → Steps S t.node b s.node → ⊥
      new_first l b s t q w k e =
          let k' : Before l b i a = rw q at k in
          let e' : Steps S t.node b m = rw q at e in
          let o = at_down rows y l t (let d = h.0 in omega arith) w in
          let z = v.closed l b t m o k' e' in
          fresh z.place z.row z.at z.is

  -- all labels of the row have been tried
  pub turn : {rows : List (Row N)} {i a : ℕ} → Upto S rows i a → i < length rows → S.labels ≤ a → Upto S rows (i + 1) 0
  turn {rows} {i} {a} v l k =
      record {
        some = v.some;
        within = omega arith;
        found = v.found;
        past = λ j s p u. let b = v.past j s p u in omega arith;
        closed = λ j b s m u t e. let up = before_turn j b i t in v.closed j b s m u (omega arith) e;
      }

  -- all rows have been expanded
  pub listing : {rows : List (Row N)} → Upto S rows (length rows) 0 → Listing S rows
  listing v = record { some = v.some; found = v.found; closed = λ j a r m u t. v.closed j a r m u (omega arith) t }
