-- The rows that end badly are the hits, and the path to the first of them is as long as the list of events.
use Rattle.std.proofs.Common.{◌≡◌, ℕ, zero, suc, ◌<◌, ◌≤◌, Bool, true, cond, eqb, ltb, leb, List, ◌++◌, length, get_or, take, drop, sum, Ok, Err, sym, refl, ap, ◌∙◌, subst, add-one, arith}
use Rattle.std.proofs.lemmas.List.{take_all}
use Rattle.std.proofs.lemmas.List.Sums.{sum_by_more}
use Rattle.std.proofs.lemmas.Bool.{and_parts, and_from, eqb-true, lt-ltb, le-leb, cond-true}
use Rattle.std.proofs.lemmas.Bool.Decides.{same_from_decides, Decides-eqb}
use Rattle.events.specs.declared.event.Event.{Event}
use Rattle.order.specs.Reached.{cut_of}
use Rattle.rows.specs.First.{NoneBelow}
use Rattle.explore.specs.Rows.{Row}
use Rattle.explore.specs.Listing.{Holds}
use Rattle.explore.specs.Paths.{path}
use Rattle.explore.specs.ReadBack.{back_path, written}
use Rattle.explore.specs.declared.path.NoPath.TheVariants.{NoRow, Short}
use Rattle.explore.proofs.ReadBack.{path_is}
use Rattle.monitor.specs.Meaning.{Meaning}
use Rattle.pairs.specs.declared.pair.Pair.{Pair}
use Rattle.pairs.specs.Pairs.{pairs, full, hit, total, size_of}
use Rattle.pairs.specs.Judged.{LeadsTo, NoHit}
use Rattle.pairs.proofs.Steps.{Given}
use Rattle.pairs.proofs.Levels.{goes_good, levelled, level_is, full_by_sum}
use Rattle.pairs.proofs.Judged.{row_leads}
use Rattle.judge.specs.declared.row.SearchRow.{SearchRow}
use Rattle.judge.specs.declared.verdict.Verdict.{Verdict}
use Rattle.judge.specs.declared.verdict.Verdict.TheVariants as verdict
use Rattle.judge.specs.Viewed.{viewed}
use Rattle.judge.specs.Decided.{ends, threads_to, DecidedBy}
use Rattle.judge.specs.Judging.{Answered}
use Rattle.judge.proofs.Rows.{no_row, view, at_view, is_view}

-- the size of a cut is its counts, added up
total_is : (cut : List ℕ) (n : ℕ) → n ≤ length cut → sum (take n cut) ≡ total (cut_of cut) n
total_is cut zero h = refl
total_is cut (suc n) h =
    subst (λ k. sum (take k cut) ≡ total (cut_of cut) (suc n)) (add-one n)
    (omega (arith, sum_by_more (λ x. x) cut n 0 h, total_is cut n (omega arith)))

pub size_is : (cut : List ℕ) → length cut ≡ 8 → sum cut ≡ size_of cut
size_is cut h = ap sum (sym (take_all 8 cut (omega arith))) ∙ total_is cut 8 (omega arith)

module _ (es : List Event) (n : ℕ) (m : Meaning) (g : Given es n) (c : ℕ) (xs : List SearchRow) (b : Bool) (holds : Holds (pairs es n m) c (viewed xs) b) where
  abbrev row : ℕ → SearchRow
  row j = get_or xs j no_row

  leads : (j : ℕ) → j < length xs → LeadsTo es n m (path (viewed xs) j) (row j).pair
  leads j l = row_leads es n m g c (viewed xs) b holds j (view (row j)) (at_view xs j no_row l)

  full_sum : (j : ℕ) → j < length xs → full es (row j).pair.cut ≡ eqb (size_of (row j).pair.cut) (length es)
  full_sum j l =
      same_from_decides (full es (row j).pair.cut) (eqb (size_of (row j).pair.cut) (length es)) (full_by_sum es n m g (path (viewed xs) j) (row j).pair (leads j l))
      (Decides-eqb (size_of (row j).pair.cut) (length es))

  hit_ends : (j : ℕ) → j < length xs → hit es m (row j).pair ≡ true → ends m (length es) (row j) ≡ true
  hit_ends j l h =
      let p = and_parts (full es (row j).pair.cut) (m.bad (row j).pair.code) h in
      and_from (m.bad (row j).pair.code) (eqb (size_of (row j).pair.cut) (length es)) p.1 (sym (full_sum j l) ∙ p.0)

  ends_hit : (j : ℕ) → j < length xs → ends m (length es) (row j) ≡ true → hit es m (row j).pair ≡ true
  ends_hit j l h =
      let p = and_parts (m.bad (row j).pair.code) (eqb (size_of (row j).pair.cut) (length es)) h in
      and_from (full es (row j).pair.cut) (m.bad (row j).pair.code) (full_sum j l ∙ p.1) p.0

  no_hit : (k : ℕ) → k ≤ length xs → NoneBelow (ends m (length es)) true xs k → NoHit es m (viewed xs) k
  no_hit k short none j s l at h =
      none j no_row l (hit_ends j (omega arith) (subst (λ (w : Row Pair). hit es m w.node ≡ true) (is_view xs j s at) h))

  -- the path to a row that ends badly has as many threads as there are events
  long : (j : ℕ) → j < length xs → ends m (length es) (row j) ≡ true → length (path (viewed xs) j) ≡ length es
  long j l h =
      let v = levelled es n m g in
      let s = goes_good (pairs es n m) (length es) v (leads j l) v.good_first in
      let e = eqb-true (size_of (row j).pair.cut) (length es) (and_parts (m.bad (row j).pair.code) (eqb (size_of (row j).pair.cut) (length es)) h).1 in
      omega (arith, s.1, v.level_first, level_is es n m g (row j).pair)

  read_back : (i : ℕ) (p list : List ℕ) → i < length xs → length p ≤ length list → written (back_path (length xs) i p (length list)) p list ≡ p ++ drop (length p) list
  read_back i p list l short =
      ap (λ r. written r p list)
      (cond-true (ltb i (length xs)) (cond (leb (length p) (length list)) (Ok (length p)) (Err Short)) (Err NoRow) (lt-ltb i (length xs) l)
      ∙ cond-true (leb (length p) (length list)) (Ok (length p)) (Err Short) (le-leb (length p) (length list) short))

  module _ (list after : List ℕ) (room : length es ≤ length list) where
    pub answered : (v : Verdict) → DecidedBy (ends m (length es)) xs list v after → (k : ℕ) → length xs ≡ k → Answered es m (viewed xs) k list v after
    answered verdict.None d k e = (no_hit k (omega arith) (λ j x l. d.0 j x (omega arith)), d.1)
    answered verdict.Found d k e =
        let i : ℕ = d.0 in
        let l : i < length xs = d.1.0 in
        let h : ends m (length es) (row i) ≡ true = d.1.1 no_row in
        let way : path (viewed xs) i ≡ threads_to xs i = path_is (λ (x : SearchRow). x.pair) (λ (x : SearchRow). x.from) (λ (x : SearchRow). x.thread) xs i in
        let many : length (threads_to xs i) ≡ length es = ap length (sym way) ∙ long i l h in (
          i,
          view (row i),
          record { at = at_view xs i no_row l; hits = ends_hit i l h; ahead = no_hit i (omega arith) d.1.2 },
          d.2
              ∙ read_back i (threads_to xs i) list l (omega arith)
              ∙ ap (λ z. threads_to xs i ++ drop z list) many
              ∙ ap (λ z. z ++ drop (length es) list) (sym way),
        )
