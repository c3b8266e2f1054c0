-- The steps of an exploration as they stand in a table of lent rows.
use Rattle.std.proofs.Common.{◌≡◌, ℕ, ◌+◌, ◌-◌, ◌<◌, ◌≤◌, true, false, List, [], ◌∷◌, ◌++◌, length, get_or, take, drop, is_some, is_err, Some, None, Ok, Err, Option, Result, sym, refl, ap, ◌∙◌, subst, arith}
use Rattle.std.proofs.lemmas.List.{get_or-map, length-map, map_push, length-take-le, drop-drop}
use Rattle.rows.specs.First.{StandsFirst}
use Rattle.explore.specs.System.{System, Steps}
use Rattle.explore.specs.Rows.{Row, At, Has, Lacks, row_of}
use Rattle.explore.specs.Listing.{Holds, none, next}
use Rattle.explore.specs.Upto.{Upto}
use Rattle.explore.specs.Entries.{rows_of}
use Rattle.explore.specs.Tables.{Grown, GoesOn, Stands, Leaves}
use Rattle.explore.specs.declared.engine.Exploration.{Exploration}
use Rattle.rows.specs.Listed.{lent, count}
use Rattle.explore.proofs.Places.{at_self}
use Rattle.explore.proofs.Advance as step
use Rattle.explore.proofs.Fronts.{upto_passed, row_same}

pub grown_on : {R : Type 0} (xs ys zs : List R) (k n m : ℕ) → Grown xs ys k n → Grown ys zs n m → Grown xs zs k m
grown_on {R} xs ys zs k n m g h =
    let a = g.more in
    let b = h.more in
    record {
      more = omega arith;
      fits = h.fits;
      long = h.long ∙ g.long;
      beyond = h.beyond ∙ later ys ∙ ap (drop (m - n)) g.beyond ∙ sym (later xs);
    }
  where
    later : (ws : List R) → drop m ws ≡ drop (m - n) (drop n ws)
    later ws = ap (λ (i : ℕ). drop i ws) (let b = h.more in omega arith) ∙ sym (drop-drop (m - n) n ws)

pub goes_further : {N R M : Type 0} (x y z : Exploration N R M) → GoesOn x y → GoesOn y z → GoesOn x z
goes_further x y z g h =
    record {
      machine = h.machine ∙ g.machine;
      list = h.list ∙ g.list;
      loan = h.loan ∙ g.loan;
      grown = grown_on (lent x.list.now) (lent y.list.now) (lent z.list.now) (count x.list.now) (count y.list.now) (count z.list.now) g.grown h.grown;
    }

module _ {R N : Type 0} (node : R → N) (from label : R → ℕ) where
  abbrev pub rowed : List R → List (Row N)
  rowed xs = rows_of node from label xs

  pub at_rowed : (xs : List R) (i : ℕ) (r : R) → At xs i r → At (rowed xs) i (row_of (node r) (from r) (label r))
  at_rowed xs i r h = (
    rw (length-map xs (λ (x : R). row_of (node x) (from x) (label x))) h.0,
    ap (λ (x : R). row_of (node x) (from x) (label x)) h.1 ∙ sym (get_or-map (λ (x : R). row_of (node x) (from x) (label x)) xs i r (row_of (node r) (from r) (label r)) h.0),
  )

  -- a row of the table stands for each row of the list
  at_table : (xs : List R) (i : ℕ) (s : Row N) (d : R) → At (rowed xs) i s → (i < length xs) × (s.node ≡ node (get_or xs i d))
  at_table xs i s d h =
      let l : i < length xs = rw (length-map xs (λ (x : R). row_of (node x) (from x) (label x))) at h.0 in
      (l, ap (λ (ρ : Row N). ρ.node) (h.1 ∙ get_or-map (λ (x : R). row_of (node x) (from x) (label x)) xs i d s l))

  -- what the first row with a key says of the list
  pub stands_is : (xs : List R) (m : N) (o : Option ℕ) → StandsFirst node m xs o → Stands (rowed xs) m (is_some o)
  stands_is xs m (Some i) h = has xs i h.0 h.1
    where
      has : (xs : List R) (i : ℕ) → i < length xs → ((d : R) → node (get_or xs i d) ≡ m) → Has (rowed xs) m
      has [] i l e = absurd (omega arith)
      has (x ∷ xs) i l e = record { place = i; row = _; at = at_rowed (x ∷ xs) i (get_or (x ∷ xs) i x) (at_self (x ∷ xs) i x l); is = e x }
  stands_is xs m None h = lacks xs h
    where
      lacks : (xs : List R) → ((k : ℕ) (d : R) → k < length xs → node (get_or xs k d) ≡ m → ⊥) → Lacks (rowed xs) m
      lacks [] h x s u e = omega arith
      lacks (r ∷ rs) h x s u e = let w = at_table (r ∷ rs) x s r u in h x r w.0 (sym w.1 ∙ e)

  module _ (S : System N) where
    length_rowed : (xs : List R) → length (rowed xs) ≡ length xs
    length_rowed xs = length-map xs (λ (x : R). row_of (node x) (from x) (label x))

    module _ (xs : List R) (i a : ℕ) (r : R) (u : Upto S (rowed xs) i a) (h : At xs i r) where
      pub one_none : S.next (node r) a ≡ None → Upto S (rowed xs) i (a + 1)
      one_none e = step.none S u (at_rowed xs i r h) e

      pub one_seen : (m : N) → S.next (node r) a ≡ Some m → Has (rowed xs) m → Upto S (rowed xs) i (a + 1)
      one_seen m e w = step.seen S u (at_rowed xs i r h) e w

      pub one_new : (m : N) → Steps S (node r) a m → Lacks (rowed xs) m → (y : R) → node y ≡ m → from y ≡ i → label y ≡ a → Upto S (rowed (xs ++ y ∷ [])) i (a + 1)
      one_new m e w y p q l =
          subst (λ (rows : List (Row N)). Upto S rows i (a + 1))
          (ap (λ (ρ : Row N). rowed xs ++ ρ ∷ []) (sym (row_same (row_of (node y) (from y) (label y)) (row_of m i a) p q l))
          ∙ sym (map_push (λ (x : R). row_of (node x) (from x) (label x)) xs y))
          (step.new S u (at_rowed xs i r h) e w)

      pub one_full : (m : N) → Steps S (node r) a m → Lacks (rowed xs) m → (c : ℕ) → length xs ≡ c → Holds S c (rowed xs) false
      one_full m e w c q =
          let n = length_rowed xs in
          record {
            fits = omega arith;
            found = u.found;
            passed = upto_passed S u;
            extent = (n ∙ q, next i a (row_of (node r) (from r) (label r)) m (at_rowed xs i r h) e w);
          }

    -- with no room at all
    pub no_room : Holds S 0 [] false
    no_room =
        record {
          fits = omega arith;
          found = record {
            root = λ r u. absurd (omega arith);
            earlier = λ j r p u. absurd (omega arith);
            stepped = λ j r q p u w. absurd (omega arith);
            earliest = λ j l b r s p u w k e. omega arith;
            rising = λ j l r s p k u w. absurd (omega arith);
            once = λ j l r s k u w e. omega arith;
          };
          passed = λ l t p u j b r m w k e. absurd (omega arith);
          extent = (refl, none);
        }

-- a row as it was read from the first len rows of a table
pub row_read : {R : Type 0} (table : List R) (len : ℕ) → len ≤ length table → (i : ℕ) (r : R) (read : List R) → i < len → read ≡ take len table → r ≡ get_or read i r → At (take len table) i r
row_read {R} table len room i r read inside s e = (let n = length-take-le len table room in omega arith, e ∙ ap (λ (ys : List R). get_or ys i r) s)

-- what an answer leaves, by whether it is an Err
module _ {N U F : Type 0} (S : System N) (c : ℕ) (rows : List (Row N)) where
  pub leaves_err : (i a : ℕ) (r : Result U F) → is_err r ≡ true → Holds S c rows false → Leaves S c rows i a r
  leaves_err i a (Ok x) h k = let z : ◌≡◌ {A = ℕ} 0 1 = cc in absurd (omega arith)
  leaves_err i a (Err x) h k = k
