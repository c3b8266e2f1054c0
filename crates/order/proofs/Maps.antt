-- Two sound lists have equal maps just if one is a consistent run of the other.
use Rattle.std.proofs.Common.{◌≡◌, ℕ, ◌<◌, List, length, get_or, sym, refl, ap, ◌∙◌, subst, inl, inr, arith}
use Rattle.std.proofs.lemmas.List.{ext_get_or}
use Rattle.std.proofs.lemmas.Bool.{cases_order}
use Rattle.events.specs.declared.event.Event.{Event}
use Rattle.order.specs.declared.row.Row.{Row}
use Rattle.order.specs.Trace.{blank, thread_at, place_at}
use Rattle.order.specs.Before.{Feeds, Before, UpTo}
use Rattle.order.specs.Before.Before.{in_thread, fed, chain}
use Rattle.order.specs.Runs.{Ordering, Consistent, reordered, RunAmong, SameFeeds}
use Rattle.order.specs.Clocks.{Counts}
use Rattle.order.specs.Sound.{Sound}
use Rattle.order.specs.Maps.{Source, RowOf, no_row, MapOf}
use Rattle.order.proofs.Places.{same_event}
use Rattle.order.proofs.Decided.{feeds_noted}
use Rattle.order.proofs.Feeders.{one_feeder}
use Rattle.order.proofs.Reordered.{rep_at, rep_length, rep_thread, rep_place, feeds_to_rep, feeds_from_rep, before_rep, consistent_from}
use Rattle.order.proofs.Numbers.{within}
use Rattle.order.proofs.Rows.{same_threads, same_places, same_rows, listed, same_lists}

-- a row but for the clock
record Told (es : List Event) (i : ℕ) (w : Row) : Type 0 where
  event : w.event ≡ get_or es i blank
  source : Source es i w.source.0 w.source.1

record Tells (es : List Event) (m : List Row) : Type 0 where
  each : (i : ℕ) → i < length es → (k : ℕ) × (k < length m) × Told es i (get_or m k no_row)
  only : (k : ℕ) → k < length m → (i : ℕ) × (i < length es) × Told es i (get_or m k no_row)

told : (es : List Event) (i : ℕ) (w : Row) → RowOf es i w → Told es i w
told es i w h = record { event = h.event; source = h.source }

tells : (es : List Event) (m : List Row) → MapOf es m → Tells es m
tells es m b = record {
  each = λ i l. let k = b.each i l in (k.0, k.1, told es i (get_or m k.0 no_row) k.2);
  only = λ k l. let i = b.only k l in (i.0, i.1, told es i.0 (get_or m k no_row) i.2);
}

-- rows that agree say the same of what feeds
module _ (es fs : List Event) (se : Sound es) (sf : Sound fs) (w : Row) (j k j' k' : ℕ) where
  feeds_over : Told es k w → Told fs k' w → j < length es → j' < length fs → thread_at es j ≡ thread_at fs j' → place_at es j ≡ place_at fs j'
      → Feeds fs j' k' → Feeds es j k
  feeds_over a b l l' t p g = go b.source a.source
    where
      go : Source fs k' w.source.0 w.source.1 → Source es k w.source.0 w.source.1 → Feeds es j k
      go (inr u) y = absurd (u.0 j' g)
      go (inl f) (inr u) =
          let q : f.0 ≡ j' = one_feeder fs f.0 j' k' f.1 g in
          absurd (omega (arith, f.3, u.2, ap (place_at fs) q, sf.places j' l'))
      go (inl f) (inl e) =
          let q : f.0 ≡ j' = one_feeder fs f.0 j' k' f.1 g in
          let r : e.0 ≡ j = same_event es se e.0 j (feeds_noted es e.0 k e.1).0 l
          (sym e.2 ∙ f.2 ∙ ap (thread_at fs) q ∙ sym t) (sym e.3 ∙ f.3 ∙ ap (place_at fs) q ∙ sym p) in
          subst (λ i. Feeds es i k) r e.1

-- event x of fs is event i of es
record Twin (es fs : List Event) (i x : ℕ) : Type 0 where
  row : Row
  here : Told es i row
  there : Told fs x row
  noted : x < length fs

module _ (es fs : List Event) (i x : ℕ) (w : Twin es fs i x) where
  twin_event : get_or es i blank ≡ get_or fs x blank
  twin_event = sym w.here.event ∙ w.there.event

  twin_thread : thread_at es i ≡ thread_at fs x
  twin_thread = same_threads twin_event

  twin_place : place_at es i ≡ place_at fs x
  twin_place = same_places twin_event

module _ (es fs : List Event) (se : Sound es) (sf : Sound fs) (m : List Row) (a : Tells es m) (b : Tells fs m) where
  twin_of : (i : ℕ) → i < length es → (x : ℕ) × Twin es fs i x
  twin_of i l =
      let k = a.each i l in
      let x = b.only k.0 k.1 in
      (x.0, record { row = get_or m k.0 no_row; here = k.2; there = x.2; noted = x.1 })

  module _ (r : List ℕ) (n : length r ≡ length es) (tw : (i : ℕ) → i < length es → Twin es fs i (get_or r i 0)) where
    tw_at : (i : ℕ) → i < length r → Twin es fs i (get_or r i 0)
    tw_at i l = tw i (omega arith)

    ordered : Ordering fs r
    ordered = record {
      noted = λ k l. (tw_at k l).noted;
      each = λ i l.
          let k = b.each i l in
          let j = a.only k.0 k.1 in
          let w = tw j.0 j.1 in (
            j.0,
            omega arith,
            same_event fs sf (get_or r j.0 0) i w.noted l
                (sym (twin_thread es fs j.0 (get_or r j.0 0) w) ∙ same_threads (sym j.2.event ∙ k.2.event))
                (sym (twin_place es fs j.0 (get_or r j.0 0) w) ∙ same_places (sym j.2.event ∙ k.2.event)),
          );
      once = λ j k x y e.
          same_event es se j k (omega arith) (omega arith)
          (twin_thread es fs j (get_or r j 0) (tw_at j x) ∙ ap (thread_at fs) e ∙ sym (twin_thread es fs k (get_or r k 0) (tw_at k y)))
          (twin_place es fs j (get_or r j 0) (tw_at j x) ∙ ap (place_at fs) e ∙ sym (twin_place es fs k (get_or r k 0) (tw_at k y)));
    }

    replayed : reordered fs r ≡ es
    replayed =
        let l = rep_length fs r ordered in
        ext_get_or blank (reordered fs r) es (l ∙ n)
        (λ i h. let q : i < length r = omega arith in rep_at fs r ordered i q ∙ sym (twin_event es fs i (get_or r i 0) (tw_at i q)))

    same_in : (j k : ℕ) → j < length r → k < length r → (Feeds fs (get_or r j 0) (get_or r k 0) → Feeds es j k) × (Feeds es j k → Feeds fs (get_or r j 0) (get_or r k 0))
    same_in j k x y =
        let u = tw_at j x in
        let w = tw_at k y in
        let t = twin_thread es fs j (get_or r j 0) u in
        let p = twin_place es fs j (get_or r j 0) u in
        let l : j < length es = omega arith in (
          feeds_over es fs se sf w.row j k (get_or r j 0) (get_or r k 0) w.here w.there l u.noted t p,
          feeds_over fs es sf se w.row (get_or r j 0) (get_or r k 0) j k w.there w.here u.noted l (sym t) (sym p),
        )

    run_from : RunAmong es fs
    run_from =
        let q = replayed in
        let same : SameFeeds fs r = λ j k x y. (
          (λ f. subst (λ gs. Feeds gs j k) (sym q) ((same_in j k x y).0 f)),
          (λ f. (same_in j k x y).1 (subst (λ gs. Feeds gs j k) q f)),
        ) in
        (r, consistent_from fs r ordered (subst Sound (sym q) se) same, q)

  run_among : RunAmong es fs
  run_among = let s = listed (length es) (Twin es fs) twin_of in run_from s.0 s.1 s.2

-- a run that is a sound list has the map of the list
module _ (fs : List Event) (sf : Sound fs) (r : List ℕ) (run : Consistent fs r) (sr : Sound (reordered fs r)) where
  pub same_feeds : SameFeeds fs r
  same_feeds j k a b = (feeds_to_rep fs sf r run j k a b, feeds_from_rep fs sf r run j k a b)

  in_run : (j : ℕ) → j < length (reordered fs r) → j < length r
  in_run j h = omega (arith, rep_length fs r run.ordering)

  in_replay : (j : ℕ) → j < length r → j < length (reordered fs r)
  in_replay j h = omega (arith, rep_length fs r run.ordering)

  before-from : {j k : ℕ} → Before (reordered fs r) j k → Before fs (get_or r j 0) (get_or r k 0)
  before-from (in_thread {e = j} {f = k} a b t p) =
      let o = run.ordering in
      let a' = in_run j a in
      let b' = in_run k b in
      in_thread (o.noted j a') (o.noted k b') (sym (rep_thread fs r o j a') ∙ t ∙ rep_thread fs r o k b')
      (omega (arith, rep_place fs r o j a', rep_place fs r o k b'))
  before-from (fed {e = j} {f = k} h) =
      let n = feeds_noted (reordered fs r) j k h in
      fed ((same_feeds j k (in_run j n.0) (in_run k n.1)).1 h)
  before-from (chain p q) = chain (before-from p) (before-from q)

  upto_from : (j k : ℕ) → UpTo (reordered fs r) j k → UpTo fs (get_or r j 0) (get_or r k 0)
  upto_from j k (inl e) = inl (ap (λ i. get_or r i 0) e)
  upto_from j k (inr b) = inr (before-from b)

  upto_to : (j k : ℕ) → j < length r → k < length r → UpTo fs (get_or r j 0) (get_or r k 0) → UpTo (reordered fs r) j k
  upto_to j k a b (inl e) = inl (run.ordering.once j k a b e)
  upto_to j k a b (inr h) = inr (before_rep fs r run.ordering sr same_feeds h j k a b refl refl)

  same_counts_lem : (j t c d : ℕ) → j < length r → Counts (reordered fs r) j t c → Counts fs (get_or r j 0) t d → c ≡ d
  same_counts_lem j t c d l nc nd =
      let o = run.ordering in
      let wc = within (reordered fs r) sr j t nc (omega arith) in
      let wd = within fs sf (get_or r j 0) t nd (omega arith) in
      elim (cases_order c d) [
        | inl q ↦ q
        | inr q ↦ elim q [
          | inl h ↦
              let s = wd.attained (omega arith) in
              let p = o.each s.0 s.1 in
              let u = upto_to p.0 j p.1 l (subst (λ e. UpTo fs e (get_or r j 0)) (sym p.2) s.4) in
              let th : thread_at (reordered fs r) p.0 ≡ t = rep_thread fs r o p.0 p.1 ∙ ap (thread_at fs) p.2 ∙ s.2 in
              absurd (omega (arith, (wc.passes p.0 (in_replay p.0 p.1) th).0 u, rep_place fs r o p.0 p.1, ap (place_at fs) p.2, s.3))
          | inr h ↦
              let s = wc.attained (omega arith) in
              let p = in_run s.0 s.1 in
              let th : thread_at fs (get_or r s.0 0) ≡ t = sym (rep_thread fs r o s.0 p) ∙ s.2 in
              absurd (omega (arith, (wd.passes (get_or r s.0 0) (o.noted s.0 p) th).0 (upto_from s.0 j s.4), rep_place fs r o s.0 p, s.3))
        ]
      ]

  same_source : (j t p t' p' : ℕ) → j < length r → Source (reordered fs r) j t p → Source fs (get_or r j 0) t' p' → (t ≡ t') × (p ≡ p')
  same_source j t p t' p' l (inr u) (inr v) = (u.1 ∙ sym v.1, u.2 ∙ sym v.2)
  same_source j t p t' p' l (inl e) (inr v) =
      let n = in_run e.0 (feeds_noted (reordered fs r) e.0 j e.1).0 in
      absurd (v.0 (get_or r e.0 0) ((same_feeds e.0 j n l).1 e.1))
  same_source j t p t' p' l (inr u) (inl e) =
      let s = run.ordering.each e.0 (feeds_noted fs e.0 (get_or r j 0) e.1).0 in
      absurd (u.0 s.0 ((same_feeds s.0 j s.1 l).0 (subst (λ i. Feeds fs i (get_or r j 0)) (sym s.2) e.1)))
  same_source j t p t' p' l (inl e) (inl f) =
      let o = run.ordering in
      let n = in_run e.0 (feeds_noted (reordered fs r) e.0 j e.1).0 in
      let q : get_or r e.0 0 ≡ f.0 = one_feeder fs (get_or r e.0 0) f.0 (get_or r j 0) ((same_feeds e.0 j n l).1 e.1) f.1 in (
        e.2 ∙ rep_thread fs r o e.0 n ∙ ap (thread_at fs) q ∙ sym f.2,
        e.3 ∙ rep_place fs r o e.0 n ∙ ap (place_at fs) q ∙ sym f.3,
      )

  row_same : (j : ℕ) (v w : Row) → j < length r → RowOf (reordered fs r) j v → RowOf fs (get_or r j 0) w → v ≡ w
  row_same j v w l a b =
      let o = run.ordering in
      let q = rep_at fs r o j l in
      let s = same_source j v.source.0 v.source.1 w.source.0 w.source.1 l a.source b.source in
      same_rows v w
      (a.event ∙ q ∙ sym b.event) s.0 s.1
      (ext_get_or 0 v.clock w.clock (a.width ∙ sym b.width)
      (λ t h.
      let k : t < 8 = omega (arith, a.width) in
      same_counts_lem j t (get_or v.clock t 0) (get_or w.clock t 0) l (a.clock t k) (b.clock t k)))

  same_map : (m n : List Row) → MapOf (reordered fs r) m → MapOf fs n → m ≡ n
  same_map m n a b =
      same_lists m n a.ascends b.ascends
      (λ k l.
      let i = a.only k l in
      let h = in_run i.0 i.1 in
      let q = b.each (get_or r i.0 0) (run.ordering.noted i.0 h) in
      (q.0, q.1, row_same i.0 (get_or m k no_row) (get_or n q.0 no_row) h i.2 q.2))
      (λ k l.
      let i = b.only k l in
      let p = run.ordering.each i.0 i.1 in
      let q = a.each p.0 (in_replay p.0 p.1) in
      (q.0, q.1, sym (row_same p.0 (get_or m q.0 no_row) (get_or n k no_row) p.1 q.2 (subst (λ e. RowOf fs e (get_or n k no_row)) (sym p.2) i.2))))

pub equal_maps : (es fs : List Event) → Sound es → Sound fs → (m n : List Row) → MapOf es m → MapOf fs n
    → (m ≡ n → RunAmong es fs) × (RunAmong es fs → m ≡ n)
equal_maps es fs se sf m n a b = (
  (λ e. run_among es fs se sf m (tells es m a) (tells fs m (subst (MapOf fs) (sym e) b))),
  (λ h. same_map fs sf h.0 h.1 (subst Sound (sym h.2) se) m n (subst (λ gs. MapOf gs m) (sym h.2) a) b),
)
