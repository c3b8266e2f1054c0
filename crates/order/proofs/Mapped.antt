-- The map of a sound list: it is there, and it is one.
use Rattle.std.proofs.Common.{◌≡◌, ℕ, zero, suc, ◌+◌, ◌<◌, ◌≤◌, Bool, true, false, cond, eqb, ◌⊎◌, List, [], ◌∷◌, ◌++◌, length, get_or, sym, refl, ap, ◌∙◌, subst, inl, inr, zero-add, arith}
use Rattle.std.specs.List.{range_with_len}
use Rattle.std.proofs.lemmas.List.{ext_get_or, get_or_append_left, get_or_push, length_push, length-map, get_or-map}
use Rattle.std.proofs.lemmas.List.FromFn.{length-range_with_len, get_or-range_with_len}
use Rattle.std.proofs.lemmas.Bool.{cases_lt, cases_eq, cases_order, cases_Bool, eq-eqb, ne_eqb}
use Rattle.std.proofs.lemmas.Bool.Decides.{not_from_Decides}
use Rattle.events.specs.declared.event.Event.{Event}
use Rattle.order.specs.declared.row.Row.{Row}
use Rattle.order.specs.Trace.{blank, thread_at, place_at}
use Rattle.order.specs.Before.{Feeds}
use Rattle.order.specs.Runs.{reordered, RunAmong}
use Rattle.order.specs.Clocks.{Counts, scan}
use Rattle.order.specs.Tests.{feeds}
use Rattle.order.specs.Sound.{Sound}
use Rattle.order.specs.Maps.{Source, RowOf, no_row, Ahead, MapOf, source, row, own_rows, rows}
use Rattle.order.proofs.Places.{places_up, same_event}
use Rattle.order.proofs.Decided.{decides_feeds}
use Rattle.order.proofs.Order.{feeds_later, noted}
use Rattle.order.proofs.Reordered.{rep_at, rep_length}
use Rattle.order.proofs.Clocks.{scan_counts}
use Rattle.order.proofs.Rows.{same_threads, same_places, listed}
use Rattle.order.proofs.Maps.{equal_maps}
use Rattle.order.proofs.Fits.{fits}

module _ (es : List Event) (sound : Sound es) where
  source_is : (i k : ℕ) → k ≤ i
      → ((e : ℕ) × Feeds es e i × ((source es i k).0 ≡ thread_at es e) × ((source es i k).1 ≡ place_at es e))
      ⊎ (((e : ℕ) → e < k → Feeds es e i → ⊥) × ((source es i k).0 ≡ 255) × ((source es i k).1 ≡ 0))
  source_is i zero l = inr ((λ e h. absurd (omega arith)), refl, refl)
  source_is i (suc k) l =
      let rest : (b : Bool) → feeds es k i ≡ b → source es i (suc k) ≡ cond b (thread_at es k, place_at es k) (source es i k)
      = λ b e. ap (λ c. cond c (thread_at es k, place_at es k) (source es i k)) e in
      elim (cases_Bool (feeds es k i)) [
        | inl e ↦
            let q = rest true e in
            inl (k, (decides_feeds es k i).0 e, ap (λ (p : ℕ × ℕ). p.0) q, ap (λ (p : ℕ × ℕ). p.1) q)
        | inr e ↦
            let q = rest false e in
            let q0 = ap (λ (p : ℕ × ℕ). p.0) q in
            let q1 = ap (λ (p : ℕ × ℕ). p.1) q in
            elim (source_is i k (omega arith)) [
              | inl s ↦ inl (s.0, s.1, q0 ∙ s.2, q1 ∙ s.3)
              | inr s ↦ inr (
                (λ f h g.
                    elim (cases_lt f k) [
                      | inl b ↦ s.0 f b g
                      | inr b ↦ let z : f ≡ k = omega arith in not_from_Decides (feeds es k i) (decides_feeds es k i) e (subst (λ x. Feeds es x i) z g)
                    ]),
                q0 ∙ s.1,
                q1 ∙ s.2,
              )
            ]
      ]

  source_of : (i : ℕ) → Source es i (source es i i).0 (source es i i).1
  source_of i =
      elim (source_is i i (omega arith)) [
        | inl s ↦ inl s
        | inr s ↦ inr ((λ e f. s.0 e (feeds_later es sound e i f) f), s.1, s.2)
      ]

  row_of : (i : ℕ) → i < length es → RowOf es i (row es i)
  row_of i h = record {
    event = refl;
    source = source_of i;
    width = length-map (range_with_len 0 8) ((scan es (suc i)).threads (thread_at es i)) ∙ length-range_with_len 0 8;
    clock = λ t l.
        subst (Counts es i t)
        (sym (get_or-map ((scan es (suc i)).threads (thread_at es i)) (range_with_len 0 8) t 0 0 (omega (arith, length-range_with_len 0 8))
        ∙ ap ((scan es (suc i)).threads (thread_at es i)) (get_or-range_with_len 0 8 t 0 l ∙ zero-add t)))
        (scan_counts es sound i t h);
  }

-- the rows of the events that are a K, in order
record Part (es : List Event) (K : ℕ → Type 0) (m : List Row) : Type 0 where
  ascends : (j k : ℕ) → j < k → k < length m → Ahead (get_or m j no_row) (get_or m k no_row)
  each : (i : ℕ) → i < length es → K i → (k : ℕ) × (k < length m) × RowOf es i (get_or m k no_row)
  only : (k : ℕ) → k < length m → (i : ℕ) × (i < length es) × K i × RowOf es i (get_or m k no_row)

abbrev Earlier : List Event → ℕ → ℕ → Type 0
Earlier es e i = (thread_at es e < thread_at es i) ⊎ ((thread_at es e ≡ thread_at es i) × (place_at es e < place_at es i))

rows_ahead : (es : List Event) (e i : ℕ) (v w : Row) → RowOf es e v → RowOf es i w → Earlier es e i → Ahead v w
rows_ahead es e i v w a b (inl h) = inl (omega (arith, same_threads a.event, same_threads b.event))
rows_ahead es e i v w a b (inr h) = inr (same_threads a.event ∙ h.0 ∙ sym (same_threads b.event), omega (arith, same_places a.event, same_places b.event, h.1))

part_like : (es : List Event) (K L : ℕ → Type 0) (m : List Row) → ((e : ℕ) → e < length es → K e → L e) → ((e : ℕ) → e < length es → L e → K e)
    → Part es K m → Part es L m
part_like es K L m to from p = record {
  ascends = p.ascends;
  each = λ i h l. p.each i h (from i h l);
  only = λ k h. let s = p.only k h in (s.0, s.1, to s.0 s.1 s.2, s.3);
}

module _ (es : List Event) (K : ℕ → Type 0) (m : List Row) (p : Part es K m) (i : ℕ) (h : i < length es) (w : Row) (row : RowOf es i w)
    (later : (e : ℕ) → e < length es → K e → Earlier es e i) where
  abbrev m' : List Row
  m' = m ++ w ∷ []

  old : (k : ℕ) → k < length m → get_or m k no_row ≡ get_or m' k no_row
  old k l = sym (get_or_append_left m (w ∷ []) no_row k l)

  new : (k : ℕ) → k ≡ length m → w ≡ get_or m' k no_row
  new k e = sym (get_or_push m w no_row k (sym e))

  part-more : Part es (λ e. K e ⊎ (e ≡ i)) m'
  part-more =
      let n : length m' ≡ length m + 1 = length_push m w in
      record {
        ascends = λ j k a b.
            let lj : j < length m = omega arith in
            elim (cases_lt k (length m)) [
              | inl l ↦ subst (λ v. Ahead v (get_or m' k no_row)) (old j lj) (subst (Ahead (get_or m j no_row)) (old k l) (p.ascends j k a l))
              | inr l ↦
                  let e = p.only j lj in
                  subst (λ v. Ahead v (get_or m' k no_row)) (old j lj)
                  (subst (Ahead (get_or m j no_row)) (new k (omega arith)) (rows_ahead es e.0 i (get_or m j no_row) w e.3 row (later e.0 e.1 e.2)))
            ];
        each = λ e l c.
            elim c [
              | inl k ↦ let s = p.each e l k in (s.0, omega arith, subst (RowOf es e) (old s.0 s.1) s.2)
              | inr q ↦ (length m, omega arith, subst (λ f. RowOf es f (get_or m' (length m) no_row)) (sym q) (subst (RowOf es i) (new (length m) refl) row))
            ];
        only = λ k l.
            elim (cases_lt k (length m)) [
              | inl b ↦ let s = p.only k b in (s.0, s.1, inl s.2, subst (RowOf es s.0) (old k b) s.3)
              | inr b ↦ (i, h, inr refl, subst (RowOf es i) (new k (omega arith)) row)
            ];
      }

-- the events of the threads below t, and those of thread t among the first p
abbrev Key : List Event → ℕ → ℕ → ℕ → Type 0
Key es t p e = (thread_at es e < t) ⊎ ((thread_at es e ≡ t) × (e < p))

module _ (es : List Event) (sound : Sound es) where
  key_on : (t p e : ℕ) → Key es t p e → Key es t (suc p) e
  key_on t p e (inl a) = inl a
  key_on t p e (inr a) = inr (a.0, omega (arith, a.1))

  -- event p is of another thread
  key_off : (t p : ℕ) → (thread_at es p ≡ t → ⊥) → (e : ℕ) → Key es t (suc p) e → Key es t p e
  key_off t p n e (inl a) = inl a
  key_off t p n e (inr a) =
      elim (cases_lt e p) [
        | inl l ↦ inr (a.0, l)
        | inr l ↦ let z : e ≡ p = omega (arith, a.1) in absurd (n (ap (thread_at es) (sym z) ∙ a.0))
      ]

  -- event p is of thread t
  module _ (t p : ℕ) (h : p < length es) (q : thread_at es p ≡ t) where
    key_to : (e : ℕ) → e < length es → Key es t p e ⊎ (e ≡ p) → Key es t (suc p) e
    key_to e l (inl k) = key_on t p e k
    key_to e l (inr z) = inr (ap (thread_at es) z ∙ q, omega arith)

    key_from : (e : ℕ) → e < length es → Key es t (suc p) e → Key es t p e ⊎ (e ≡ p)
    key_from e l (inl k) = inl (inl k)
    key_from e l (inr k) =
        elim (cases_lt e p) [
          | inl b ↦ inl (inr (k.0, b))
          | inr b ↦ inr (omega (arith, k.1))
        ]

    key_later : (e : ℕ) → e < length es → Key es t p e → Earlier es e p
    key_later e l (inl k) = inl (omega arith)
    key_later e l (inr k) = inr (k.0 ∙ sym q, places_up es sound e p k.1 h (k.0 ∙ sym q))

  grow : (t : ℕ) (m : List Row) → Part es (Key es t 0) m → (p : ℕ) → p ≤ length es → Part es (Key es t p) (own_rows es t m p)
  grow t m s zero l = s
  grow t m s (suc p) l =
      let r = grow t m s p (omega arith) in
      let pick : (b : Bool) → eqb (thread_at es p) t ≡ b → cond b (own_rows es t m p ++ row es p ∷ []) (own_rows es t m p) ≡ own_rows es t m (suc p)
      = λ b e. ap (λ c. cond c (own_rows es t m p ++ row es p ∷ []) (own_rows es t m p)) (sym e) in
      elim (cases_eq (thread_at es p) t) [
        | inl q ↦
            subst (Part es (Key es t (suc p))) (pick true (eq-eqb (thread_at es p) t q))
            (part_like es (λ e. Key es t p e ⊎ (e ≡ p)) (Key es t (suc p)) (own_rows es t m p ++ row es p ∷ []) (key_to t p l q) (key_from t p l q)
            (part-more es (Key es t p) (own_rows es t m p) r p l (row es p) (row_of es sound p l) (key_later t p l q)))
        | inr q ↦
            subst (Part es (Key es t (suc p))) (pick false (ne_eqb (thread_at es p) t q))
            (part_like es (Key es t p) (Key es t (suc p)) (own_rows es t m p) (λ e h. key_on t p e) (λ e h. key_off t p q e) r)
      ]

  next_to : (t e : ℕ) → e < length es → Key es t (length es) e → Key es (suc t) 0 e
  next_to t e h (inl k) = inl (omega arith)
  next_to t e h (inr k) = inl (omega (arith, k.0))

  next_from : (t e : ℕ) → e < length es → Key es (suc t) 0 e → Key es t (length es) e
  next_from t e h (inr k) = absurd (omega (arith, k.1))
  next_from t e h (inl k) =
      elim (cases_lt (thread_at es e) t) [
        | inl l ↦ inl l
        | inr l ↦ let q : thread_at es e ≡ t = omega arith in inr (q, h)
      ]

  none_yet : (e : ℕ) → Key es 0 0 e → ⊥
  none_yet e (inl k) = omega arith
  none_yet e (inr k) = omega (arith, k.1)

  threads : (t : ℕ) → Part es (Key es t 0) (rows es t)
  threads zero = record { ascends = λ j k a b. absurd (omega arith); each = λ i h k. absurd (none_yet i k); only = λ k h. absurd (omega arith) }
  threads (suc t) =
      part_like es (Key es t (length es)) (Key es (suc t) 0) (rows es (suc t)) (next_to t) (next_from t) (grow t (rows es t) (threads t) (length es) (omega arith))

  whole : (n : ℕ) → ((i : ℕ) → i < length es → thread_at es i < n) → MapOf es (rows es n)
  whole n h =
      let s = threads n in
      record {
        ascends = s.ascends;
        each = λ i l. s.each i l (inl (h i l));
        only = λ k l. let e = s.only k l in (e.0, e.1, e.3);
      }

  -- the noted order, as a run, is the list itself
  pub as_noted : reordered es (range_with_len 0 (length es)) ≡ es
  as_noted =
      let r : List ℕ = range_with_len 0 (length es) in
      let o = (noted es sound).ordering in
      let n = length-range_with_len 0 (length es) in
      let l = rep_length es r o in
      ext_get_or blank (reordered es r) es (l ∙ n)
      (λ i h.
      let k : i < length r = omega arith in
      rep_at es r o i k ∙ ap (λ j. get_or es j blank) (get_or-range_with_len 0 (length es) i 0 (omega arith) ∙ zero-add i))

  own_run : RunAmong es es
  own_run = (range_with_len 0 (length es), noted es sound, as_noted)

  module _ (m : List Row) (a : MapOf es m) where
    -- a list of each row's event, and of each event's row
    as_many : length m ≡ length es
    as_many =
        let f = listed (length m) (λ k i. (i < length es) × RowOf es i (get_or m k no_row)) (λ k l. let s = a.only k l in (s.0, (s.1, s.2))) in
        let g = listed (length es) (λ i k. (k < length m) × RowOf es i (get_or m k no_row)) (λ i l. let s = a.each i l in (s.0, (s.1, s.2))) in
        let x = fits (length m) (length es) (λ k. get_or f.0 k 0) (record {
          below = λ k l. (f.2 k l).0;
          apart = λ j k u v e.
              let v' = (f.2 k v).1 in
              let q = (f.2 j u).1.event ∙ ap (λ i. get_or es i blank) e ∙ sym v'.event in
              row_once j k u v (same_threads q) (same_places q);
        }) in
        let y = fits (length es) (length m) (λ i. get_or g.0 i 0) (record {
          below = λ i l. (g.2 i l).0;
          apart = λ i j u v e.
              let q = sym (g.2 i u).1.event ∙ ap (λ k. (get_or m k no_row).event) e ∙ (g.2 j v).1.event in
              same_event es sound i j u v (same_threads q) (same_places q);
        }) in
        omega arith
      where
        never : (v w : Row) → v.event.thread ≡ w.event.thread → v.event.place ≡ w.event.place → Ahead v w → ⊥
        never v w t p (inl h) = omega arith
        never v w t p (inr h) = omega (arith, h.1)

        row_once : (j k : ℕ) → j < length m → k < length m
            → (get_or m j no_row).event.thread ≡ (get_or m k no_row).event.thread → (get_or m j no_row).event.place ≡ (get_or m k no_row).event.place → j ≡ k
        row_once j k u v t p =
            elim (cases_order j k) [
              | inl q ↦ q
              | inr q ↦ elim q [
                | inl l ↦ absurd (never (get_or m j no_row) (get_or m k no_row) t p (a.ascends j k l v))
                | inr l ↦ absurd (never (get_or m k no_row) (get_or m j no_row) (sym t) (sym p) (a.ascends k j l u))
              ]
            ]

pub rows_are_map : (es : List Event) → Sound es → (n : ℕ) → ((i : ℕ) → i < length es → thread_at es i < n) → MapOf es (rows es n)
rows_are_map = whole

pub as_many_rows : (es : List Event) → Sound es → (m : List Row) → MapOf es m → length m ≡ length es
as_many_rows = as_many

pub one_map : (es : List Event) → Sound es → (m n : List Row) → MapOf es m → MapOf es n → m ≡ n
one_map es sound m n a b = (equal_maps es es sound sound m n a b).1 (own_run es sound)
