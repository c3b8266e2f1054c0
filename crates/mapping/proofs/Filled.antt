-- The tables and the rows after some of the events.
use Rattle.std.proofs.Common.{◌≡◌, ℕ, suc, ◌+◌, ◌-◌, ◌<◌, ◌≤◌, cond, eqb, List, [], length, get_or, take, drop, set, replicate, None, Option, sym, refl, ap, ◌∙◌, subst, inl, inr, add-one, arith}
use Rattle.std.proofs.lemmas.List.{length-set, get_or-set_same, get_or-set_other, get_or-replicate, length-replicate, length-take-le, get_or-take, drop-set-lt}
use Rattle.std.proofs.lemmas.Bool.{cases_lt, cases_order}
use Rattle.events.specs.declared.event.Event.{Event}
use Rattle.order.specs.declared.row.Row.{Row}
use Rattle.order.specs.Trace.{blank, thread_at, place_at}
use Rattle.order.specs.Clocks.{Clock, Counts, tick, scan}
use Rattle.order.specs.Maps.{Source, RowOf, no_row, Ahead, MapOf}
use Rattle.order.proofs.Clocks.{knows, next_threads, scan_counts}
use Rattle.order.proofs.Kept.{own_clock}
use Rattle.order.proofs.Rows.{same_threads, same_places}
use Rattle.mapping.specs.declared.latest.Latest.{Latest}
use Rattle.mapping.specs.Rows.{Mappable, base}
use Rattle.mapping.specs.Latest.{feeder, source_of, thread_clock, met, with_write, with_acquire}
use Rattle.mapping.proofs.Spots.{start, spot, spot_below, spot_thread, spot_apart, spot_each, spot_by_place, position_is}
use Rattle.mapping.proofs.Tables.{Written, Table, table_none, table_next, FedBy, fed_by, fed_source, fed_clock}

threads_few : (es : List Event) → Mappable es → (i : ℕ) → i < length es → thread_at es i < 8
threads_few es fit i h = (fit.bounded i h).thread

-- after k events: each thread's clock, the latest writes and acquires, the rows of the events so far, and the rows beyond as they were
pub record Filled (es : List Event) (k : ℕ) (s : Latest) (m before : List Row) : Type 0 where
  pub clocks : length s.clocks ≡ 8
  pub threads : (t j : ℕ) → t < 8 → j < 8 → get_or (get_or s.clocks t []) j 0 ≡ (scan es k).threads t j
  pub writes : Table es 2 32 k s.writes
  pub acquires : Table es 3 16 k s.acquires
  pub written : (i : ℕ) → i < k → Written es i (get_or m (spot es i) no_row)
  pub size : length m ≡ length before
  pub beyond : drop (length es) m ≡ drop (length es) before

pub filled_none : (es : List Event) (s : Latest) (m : List Row)
    → s.clocks ≡ replicate 8 (replicate 8 0) → s.writes ≡ replicate 32 None → s.acquires ≡ replicate 16 None → Filled es 0 s m m
filled_none es s m c a b =
    let zeros : List ℕ = replicate 8 0 in
    record {
      clocks = ap length c ∙ length-replicate 8 zeros;
      threads = λ t j u v.
          ap (λ (cs : List (List ℕ)). get_or (get_or cs t []) j 0) c ∙ ap (λ (d : List ℕ). get_or d j 0) (get_or-replicate 8 t zeros [] u)
          ∙ get_or-replicate {A = ℕ} 8 j 0 0 v;
      writes = subst (Table es 2 32 0) (sym a) (table_none es 2 32);
      acquires = subst (Table es 3 16 0) (sym b) (table_none es 3 16);
      written = λ i h. absurd (omega arith);
      size = refl;
      beyond = refl;
    }

-- event k's row has a position within the rows
pub record Stands (es : List Event) (k : ℕ) (bases : List ℕ) (m : List Row) : Type 0 where
  pub place : 0 < place_at es k
  pub among : get_or bases (thread_at es k) 0 + place_at es k ≤ length es
  pub within : get_or bases (thread_at es k) 0 + place_at es k - 1 < length m

module _ (es : List Event) (fit : Mappable es) (k : ℕ) (h : k < length es) (s : Latest) (m before : List Row) (a : Filled es k s m before) where
  few : thread_at es k < 8
  few = threads_few es fit k h

  abbrev fed : Option Row
  fed = feeder s (get_or es k blank)

  abbrev own : ℕ → ℕ
  own j = tick (thread_at es k) (λ u. get_or (thread_clock s (get_or es k blank)) u 0) j

  -- there is room for one more count
  pub small : get_or (thread_clock s (get_or es k blank)) (thread_at es k) 0 < 255
  small =
      let t : ℕ = thread_at es k in
      let x = a.threads t t few few in
      let y = (knows es fit.sound k (omega arith)).threads_noted t t in
      let z = fit.sound.places k h in
      let w = (fit.bounded k h).place in
      omega (arith, x, y, z, w)

  pub row_here : (w : Row) → w.event ≡ get_or es k blank → w.source ≡ source_of (feeder s (get_or es k blank)) → length w.clock ≡ 8
      → ((j : ℕ) → j < 8 → get_or w.clock j 0 ≡ met (feeder s (get_or es k blank)) j (tick (thread_at es k) (λ u. get_or (thread_clock s (get_or es k blank)) u 0) j))
      → Written es k w
  row_here w event source width counts =
      let b = fit.bounded k h in
      let f : FedBy es k fed = fed_by es fit.sound k h s a.writes a.acquires b.variable b.lock in
      record {
        event = event;
        source = subst (λ (p : ℕ × ℕ). Source es k p.0 p.1) (sym source) (fed_source es fit.sound k h fed f);
        width = width;
        clock = λ j l.
            let n = ap (λ n. cond (eqb (thread_at es k) j) (suc n) n) (a.threads (thread_at es k) j few l) in
            fed_clock es fit.sound k h fed f j (own j) (get_or w.clock j 0) l n (counts j l) ∙ sym (own_clock es fit.sound k j);
      }

  module _ (bases : List ℕ) (hb : (u : ℕ) → u < 8 → get_or bases u 0 ≡ base es u) (room : length es ≤ length before) where
    position : get_or bases (thread_at es k) 0 + place_at es k ≡ suc (spot es k)
    position = position_is es fit.sound bases hb k h few (thread_at es k, place_at es k) refl refl

    pub stands : Stands es k bases m
    stands =
        let p = position in
        let r = spot_below es 8 (threads_few es fit) k h in
        let g = fit.sound.places k h in
        let z = a.size in
        record { place = omega (arith, g); among = omega (arith, p, r); within = omega (arith, p, r, z, room) }

    pub filled_next : (s' : Latest) (m' : List Row) (w : Row) (p : ℕ) → Written es k w
        → s'.clocks ≡ set s.clocks (thread_at es k) w.clock → s'.writes ≡ with_write s.writes (get_or es k blank) w → s'.acquires ≡ with_acquire s.acquires (get_or es k blank) w
        → p ≡ get_or bases (thread_at es k) 0 + place_at es k - 1
        → m' ≡ set m p w
        → Filled es (k + 1) s' m' before
    filled_next s' m' w p here ec ew ea ep em =
        let t : ℕ = thread_at es k in
        let q = position in
        let r = spot_below es 8 (threads_few es fit) k h in
        let z : p ≡ spot es k = omega (arith, ep, q) in
        let sz = a.size in
        let inside : p < length m = omega (arith, z, r, sz, room) in
        let b = fit.bounded k h in
        let thread_own : (u : ℕ) → t ≡ u → get_or s'.clocks u [] ≡ w.clock
        = λ u y. ap (λ (cs : List (List ℕ)). get_or cs u []) ec
        ∙ subst (λ i. get_or (set s.clocks t w.clock) i [] ≡ w.clock) y (get_or-set_same s.clocks t w.clock [] (omega (arith, a.clocks, few))) in
        let thread_other : (u : ℕ) → (t ≡ u → ⊥) → get_or s'.clocks u [] ≡ get_or s.clocks u []
        = λ u y. ap (λ (cs : List (List ℕ)). get_or cs u []) ec ∙ get_or-set_other s.clocks t u w.clock [] (λ i. y (sym i)) in
        subst (λ i. Filled es i s' m' before) (sym (add-one k))
        (subst (λ x. Filled es (suc k) s' x before) (sym em)
        (record {
          clocks = ap length ec ∙ length-set s.clocks t w.clock ∙ a.clocks;
          threads = λ u j l v.
              elim (next_threads es fit.sound k h (scan es k) (knows es fit.sound k (omega arith)) u) [
                | inl y ↦
                    ap (λ x. get_or x j 0) (thread_own u y.0) ∙ here.clock j v ∙ own_clock es fit.sound k j ∙ sym (ap (λ (c : Clock). c j) y.1)
                | inr y ↦ ap (λ x. get_or x j 0) (thread_other u y.0) ∙ a.threads u j l v ∙ sym (ap (λ (c : Clock). c j) y.1)
              ];
          writes = subst (Table es 2 32 (suc k)) (sym ew) (table_next es 2 32 k s.writes w h here (λ y. b.variable) a.writes);
          acquires = subst (Table es 3 16 (suc k)) (sym ea) (table_next es 3 16 k s.acquires w h here (λ y. b.lock (omega arith)) a.acquires);
          written = λ i l.
              elim (cases_lt i k) [
                | inl y ↦
                    subst (Written es i) (sym (get_or-set_other m p (spot es i) w no_row
                    (λ x. let b : i ≡ k = spot_apart es i k (omega arith) h (x ∙ z) in omega arith)))
                    (a.written i y)
                | inr y ↦
                    let b : k ≡ i = omega arith in
                    let g : get_or (set m p w) (spot es k) no_row ≡ w = subst (λ x. get_or (set m p w) x no_row ≡ w) z (get_or-set_same m p w no_row inside) in
                    subst (λ x. Written es x (get_or (set m p w) (spot es x) no_row)) b (subst (Written es k) (sym g) here)
              ];
          size = length-set m p w ∙ a.size;
          beyond = drop-set-lt (length es) m p w (omega (arith, z, r)) ∙ a.beyond;
        }))

-- When all events are seen, the rows are the map.
module _ (es : List Event) (fit : Mappable es) (m : List Row) (room : length es ≤ length m) (all : (i : ℕ) → i < length es → Written es i (get_or m (spot es i) no_row)) where
  row_of : (i : ℕ) (w : Row) → i < length es → Written es i w → RowOf es i w
  row_of i w l r = record {
    event = r.event;
    source = r.source;
    width = r.width;
    clock = λ t h. subst (Counts es i t) (sym (r.clock t h)) (scan_counts es fit.sound i t l);
  }

  row-at : (i p : ℕ) → i < length es → spot es i ≡ p → RowOf es i (get_or (take (length es) m) p no_row)
  row-at i p l e =
      let b = spot_below es 8 (threads_few es fit) i l in
      let x : get_or m (spot es i) no_row ≡ get_or (take (length es) m) p no_row
      = sym (get_or-take (length es) m (spot es i) no_row b) ∙ ap (λ q. get_or (take (length es) m) q no_row) e in
      subst (RowOf es i) x (row_of i (get_or m (spot es i) no_row) l (all i l))

  ahead : (i j : ℕ) (v w : Row) → i < length es → j < length es → RowOf es i v → RowOf es j w → spot es i < spot es j → Ahead v w
  ahead i j v w a b x y l =
      elim (cases_order (thread_at es i) (thread_at es j)) [
        | inl q ↦
            let c = spot_by_place es fit.sound i a in
            let d = spot_by_place es fit.sound j b in
            let e = ap (start es) q in
            inr (same_threads x.event ∙ q ∙ sym (same_threads y.event), omega (arith, same_places x.event, same_places y.event, c, d, e))
        | inr q ↦ elim q [
          | inl z ↦ inl (omega (arith, same_threads x.event, same_threads y.event))
          | inr z ↦ let c = spot_thread es j i b z in absurd (omega arith)
        ]
      ]

  pub filled_map : MapOf es (take (length es) m)
  filled_map =
      let n : length (take (length es) m) ≡ length es = length-take-le (length es) m room in
      let met = spot_each es 8 (threads_few es fit) in
      record {
        ascends = λ j k a b.
            let x = met j (omega arith) in
            let y = met k (omega arith) in
            let u = x.2 in
            let v = y.2 in
            ahead x.0 y.0 (get_or (take (length es) m) j no_row) (get_or (take (length es) m) k no_row) x.1 y.1
            (row-at x.0 j x.1 u) (row-at y.0 k y.1 v) (omega (arith, u, v));
        each = λ i l. (spot es i, omega (arith, n, spot_below es 8 (threads_few es fit) i l), row-at i (spot es i) l refl);
        only = λ k l. let x = met k (omega arith) in (x.0, x.1, row-at x.0 k x.1 x.2);
      }
