-- The first hit is the least run that violates, and without a hit none does.
use Rattle.std.proofs.Common.{◌≡◌, ℕ, zero, suc, ◌<◌, Bool, true, false, List, [], ◌∷◌, length, get_or, sym, ap, ◌∙◌, subst, inl, inr, arith}
use Rattle.std.proofs.lemmas.Bool.{cases_lt, and_parts, and_from, false≢true}
use Rattle.events.specs.declared.event.Event.{Event}
use Rattle.events.specs.Noting.{Opening}
use Rattle.order.specs.Runs.{thread_list}
use Rattle.order.proofs.OneRun.{one_run}
use Rattle.explore.specs.System.{System}
use Rattle.explore.specs.Rows.{Row, At, row_at}
use Rattle.explore.specs.Listing.{Listing, Holds}
use Rattle.explore.specs.Paths.{path, Less}
use Rattle.explore.specs.Levels.{Ordered}
use Rattle.explore.proofs.Places.{row-at, is_row_at}
use Rattle.explore.proofs.Fronts.{listing_passed}
use Rattle.explore.proofs.Paths.{reaches}
use Rattle.explore.proofs.Ordered.{ordered}
use Rattle.monitor.specs.Meaning.{Meaning, ran}
use Rattle.monitor.proofs.Ends.{end_tells}
use Rattle.pairs.specs.declared.pair.Pair.{Pair}
use Rattle.pairs.specs.Pairs.{pairs, full, hit, same}
use Rattle.pairs.specs.Judged.{Recorded, actions, LeadsTo, Comes, Breaks, Higher, FirstHit, Least, Judges, Told}
use Rattle.pairs.specs.Agreement.{Agree}
use Rattle.pairs.proofs.Steps.{Given, given}
use Rattle.pairs.proofs.Agreement.{agreement}
use Rattle.pairs.proofs.Reaching.{paths}
use Rattle.pairs.proofs.Levels.{told, goes_good, levelled, level_is, full_by_sum}

-- of two words of one length, the greater has the higher number at the first place where they differ
pub higher_from : (p q : List ℕ) → length p ≡ length q → Less p q → Higher p q
higher_from [] [] e h = absurd h
higher_from [] (b ∷ q) e h = absurd (omega arith)
higher_from (a ∷ p) [] e h = absurd (omega arith)
higher_from (a ∷ p) (b ∷ q) e h =
    elim (cases_lt a b) [
      | inl l ↦ record { place = 0; left = omega arith; right = omega arith; alike = λ k z. absurd (omega arith); higher = l }
      | inr l ↦
          let s = higher_from p q (omega arith) (h.1 l) in
          record {
            place = suc s.place;
            left = omega (arith, s.left);
            right = omega (arith, s.right);
            alike = more_alike a b p q s.place (omega (arith, h.0)) s.alike;
            higher = s.higher;
          }
    ]
  where
    more_alike : (a b : ℕ) (p q : List ℕ) (i : ℕ) → a ≡ b → ((k : ℕ) → k < i → get_or p k 0 ≡ get_or q k 0)
        → (k : ℕ) → k < suc i → get_or (a ∷ p) k 0 ≡ get_or (b ∷ q) k 0
    more_alike a b p q i e h zero l = e
    more_alike a b p q i e h (suc k) l = h k (omega arith)

module _ (es : List Event) (n : ℕ) (m : Meaning) (g : Given es n) where
  abbrev S : System Pair
  S = pairs es n m

  -- all paths to a full cut are as long as the noted list
  long : (p : List ℕ) (y : Pair) → Comes es n m p y → ((levelled es n m g).level y ≡ length es) × (length p ≡ length es)
  long p y c =
      let v = levelled es n m g in
      let s = goes_good S (length es) v c.0 v.good_first in
      let f = level_is es n m g y ∙ (full_by_sum es n m g p y c.0).0 c.1 in
      (f, omega (arith, s.1, v.level_first, f))

  -- a run that violates comes to a hit
  breaks_hit : (r : List ℕ) → Breaks es m r → (y : Pair) × Comes es n m (thread_list es r) y × (hit es m y ≡ true)
  breaks_hit r b =
      let h = (paths es n m g).has_run r b.0 in
      let e : m.bad h.0.code ≡ true = ap m.bad h.2 ∙ (end_tells m (actions es r)).1 b.1 in
      (h.0, h.1, and_from (full es h.0.cut) (m.bad h.0.code) h.1.1 e)

  -- a hit ends such a run
  hit_breaks : (p : List ℕ) (y : Pair) → Comes es n m p y → hit es m y ≡ true
      → (r : List ℕ) × Breaks es m r × (thread_list es r ≡ p) × (y.code ≡ ran m (actions es r))
  hit_breaks p y c h =
      let s = (paths es n m g).is_run p y c in
      let b = (and_parts (full es y.cut) (m.bad y.code) h).1 in
      (s.0, (s.1, (end_tells m (actions es s.0)).0 (ap m.bad (sym s.3) ∙ b)), s.2, s.3)

  module _ (c : ℕ) (rows : List (Row Pair)) (b : Bool) (holds : Holds S c rows b) where
    abbrev node : ℕ → Pair
    node j = (row_at S rows j).node

    in_order : Ordered S (levelled es n m g).level rows
    in_order = ordered S same (length es) (levelled es n m g) told c rows b holds

    -- the path by which a row was found leads to it
    pub row_leads : (j : ℕ) (r : Row Pair) → At rows j r → LeadsTo es n m (path rows j) r.node
    row_leads j r at = subst (λ (w : Row Pair). LeadsTo es n m (path rows j) w.node) (sym (is_row_at S rows j r at)) (in_order.leads j at.0)

    comes_to : (j : ℕ) → j < length rows → hit es m (node j) ≡ true → Comes es n m (path rows j) (node j)
    comes_to j l h = (in_order.leads j l, (and_parts (full es (node j).cut) (m.bad (node j).code) h).0)

    least : (j : ℕ) (r : Row Pair) → FirstHit es m rows j r → Least es m rows j r
    least j r f =
        let listed = f.at.0 in
        let is : r ≡ row_at S rows j = is_row_at S rows j r f.at in
        let hits : hit es m (node j) ≡ true = subst (λ (w : Row Pair). hit es m w.node ≡ true) is f.hits in
        let s = hit_breaks (path rows j) (node j) (comes_to j listed hits) hits in
        record {
          run = s.0;
          lists = s.2;
          breaks = s.1;
          code = ap (λ (w : Row Pair). w.node.code) is ∙ s.3;
          others = λ q breaks d.
              let y = breaks_hit q breaks in
              let a = long (thread_list es q) y.0 y.1 in
              let z = long (path rows j) (node j) (comes_to j listed hits) in
              let ls : length (thread_list es s.0) ≡ length (path rows j) = ap length s.2 in
              elim (in_order.best (hit es m) j listed
              (λ l k t e. f.ahead l (row_at S rows l) k (row-at S rows l (omega arith)) t)
              (thread_list es q) y.0 y.1.0 y.2 (a.0 ∙ sym z.0)) [
                | inl e ↦ absurd (d (one_run es g.sound q s.0 breaks.0 s.1.0 (sym (s.2 ∙ e))))
                | inr e ↦ higher_from (thread_list es s.0) (thread_list es q) (omega arith)
                    (subst (λ p. Less p (thread_list es q)) (sym s.2) e)
              ];
        }

  -- what a listing says of the runs
  pub judged : (rows : List (Row Pair)) → Listing S rows → Judges es m rows
  judged rows all =
      let all-holds : Holds S (length rows) rows true = record { fits = omega arith; found = all.found; passed = listing_passed S all; extent = all } in
      record {
        never = λ none r breaks.
            let y = breaks_hit r breaks in
            let w = (reaches S rows all).reached (thread_list es r) y.0 y.1.0 in
            none w.place w.row w.at.0 w.at (subst (λ z. hit es m z ≡ true) (sym w.is) y.2);
        no_hit = λ none j s l at h.
            let is : s ≡ row_at S rows j = is_row_at S rows j s at in
            let hits : hit es m (row_at S rows j).node ≡ true = subst (λ (w : Row Pair). hit es m w.node ≡ true) is h in
            let b = hit_breaks (path rows j) (row_at S rows j).node (comes_to (length rows) rows true all-holds j at.0 hits) hits in
            none b.0 b.1;
        found = least (length rows) rows true all-holds;
      }

  -- what the rows in a room say
  pub room_judged : (c : ℕ) (rows : List (Row Pair)) (complete : Bool) → Holds S c rows complete → Told es m rows complete
  room_judged c rows true h = record { whole = λ e. judged rows h.extent; found = least c rows true h }
  room_judged c rows false h = record { whole = λ e. absurd (false≢true e); found = least c rows false h }

-- what rows say that a room holds of a system that agrees with the pairs
pub told_of : (o : Opening) (es : List Event) (n : ℕ) (m : Meaning) → Recorded o es n → (T : System Pair) → Agree T (pairs es n m)
    → (c : ℕ) (rows : List (Row Pair)) (complete : Bool) → Holds T c rows complete → Told es m rows complete
told_of o es n m r T agree c rows complete h =
    room_judged es n m (given o es n r) c rows complete (agreement T (pairs es n m) agree c rows complete h)
