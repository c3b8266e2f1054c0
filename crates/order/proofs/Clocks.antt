-- The scan's clocks are the counts.
use Rattle.std.proofs.Common.{◌≡◌, ℕ, zero, suc, ◌<◌, ◌≤◌, max, cond, ◌⊎◌, List, length, get_or, sym, refl, ap, ◌∙◌, subst, inl, inr, arith}
use Rattle.std.proofs.Math.Nat.{le-max_left, le-max_right}
use Rattle.std.proofs.lemmas.Bool.{cases_lt, cases_eq, eq-eqb, ne_eqb}
use Rattle.events.specs.declared.event.Event.{Event}
use Rattle.order.specs.Trace.{blank, thread_at, place_at, Reads, Writes}
use Rattle.order.specs.Before.{NoneBetween, Feeds, Before, UpTo}
use Rattle.order.specs.Before.Feeds.{value, hold}
use Rattle.order.specs.Before.Before.{in_thread, fed, chain}
use Rattle.order.specs.Clocks.{Counts, Clock, Clocks, tick, join, put, clock_of, step, scan, clock_at}
use Rattle.order.specs.Sound.{count, Sound}
use Rattle.order.proofs.Places.{count_own, count_up, count_met, places_up, same_event}
use Rattle.order.proofs.Cuts.{advance_own, advance_other}
use Rattle.order.proofs.Feeders.{one_feeder, release_from}
use Rattle.order.proofs.Order.{before_later}
use Rattle.order.proofs.Numbers.{upto_chain, counts_from}

-- e is before whatever an event behind its own is before
upto_then : (es : List Event) (e d k : ℕ) → UpTo es e d → Before es d k → UpTo es e k
upto_then es e d k (inl q) b = inr (subst (λ i. Before es i k) (sym q) b)
upto_then es e d k (inr c) b = inr (chain c b)

-- d is ahead of k in its thread, or a write that k reads
abbrev Direct : List Event → ℕ → ℕ → Type 0
Direct es d k =
    ((thread_at es d ≡ thread_at es k) × (d < k))
    ⊎ ((x : ℕ) × Writes es x d × Reads es x k × (d < k) × NoneBetween d k (Writes es x))

-- e is among what an event of thread t, of the first k, is or has before it
abbrev pub Seen : List Event → ℕ → ℕ → ℕ → Type 0
Seen es k t e = (f : ℕ) × (f < k) × (thread_at es f ≡ t) × UpTo es e f

-- .. what the latest write of x, of the first k, is or has before it
abbrev pub Got : List Event → ℕ → ℕ → ℕ → Type 0
Got es k x e = (w : ℕ) × (w < k) × Writes es x w × NoneBetween w k (Writes es x) × UpTo es e w

-- what the clocks say after k events
pub record Knows (es : List Event) (k : ℕ) (s : Clocks) : Type 0 where
  pub seen : (t e : ℕ) → e < length es
      → (place_at es e ≤ s.threads t (thread_at es e) → Seen es k t e) × (Seen es k t e → place_at es e ≤ s.threads t (thread_at es e))
  pub got : (x e : ℕ) → e < length es
      → (place_at es e ≤ s.writes x (thread_at es e) → Got es k x e) × (Got es k x e → place_at es e ≤ s.writes x (thread_at es e))
  pub threads_noted : (t j : ℕ) → s.threads t j ≤ count es j k
  pub writes_noted : (x j : ℕ) → s.writes x j ≤ count es j k

pub put_own : (t u : ℕ) (c : Clock) (v : ℕ → Clock) → t ≡ u → put t c v u ≡ c
put_own t u c v e = ap (λ b. cond b c (v u)) (eq-eqb t u e)

put_other : (t u : ℕ) (c : Clock) (v : ℕ → Clock) → (t ≡ u → ⊥) → put t c v u ≡ v u
put_other t u c v e = ap (λ b. cond b c (v u)) (ne_eqb t u e)

max_one : (a b : ℕ) → (max a b ≡ a) ⊎ (max a b ≡ b)
max_one a b = elim (cases_lt a b) [ inl l ↦ inr (omega arith) | inr l ↦ inl (omega arith) ]

module _ (es : List Event) (sound : Sound es) where
  direct_step : {e k : ℕ} → Before es e k → (d : ℕ) × Direct es d k × UpTo es e d
  direct_step (in_thread {e = e} a b t p) = (e, inl (t, before_later es sound (in_thread a b t p)), inl refl)
  direct_step (fed {e = e} {f = f} h) = go h
    where
      go : Feeds es e f → (d : ℕ) × Direct es d f × UpTo es e d
      go (value x w r l n) = (e, inr (x, w, r, l, n), inl refl)
      go (hold x w r l n) =
          let s = release_from es sound x f r in
          let q : e ≡ s.0 = one_feeder es e s.0 f (hold x w r l n) s.1 in
          (e, inl (ap (thread_at es) q ∙ s.3, l), inl refl)
  direct_step (chain {e = e} {f = f} p q) =
      let s = direct_step q in
      (s.0, s.1, inr (upto_chain es e f s.0 p s.2))

-- one event on
module _ (es : List Event) (sound : Sound es) (k : ℕ) (l : k < length es) (s : Clocks) (known : Knows es k s) where
  abbrev pub here : Event
  here = get_or es k blank

  abbrev pub c : Clock
  c = clock_of s here

  abbrev pub t : ℕ
  t = thread_at es k

  abbrev pub base : Clock
  base = tick t (s.threads t)

  pub clock_read : here.kind ≡ 1 → c ≡ join base (s.writes here.subject)
  clock_read e = ap (λ b. cond b (join base (s.writes here.subject)) base) (eq-eqb here.kind 1 e)

  pub clock_plain : (here.kind ≡ 1 → ⊥) → c ≡ base
  clock_plain e = ap (λ b. cond b (join base (s.writes here.subject)) base) (ne_eqb here.kind 1 e)

  base_low : (j : ℕ) → base j ≤ c j
  base_low j =
      elim (cases_eq here.kind 1) [
        | inl e ↦ subst (λ (d : Clock). base j ≤ d j) (sym (clock_read e)) (le-max_left (base j) (s.writes here.subject j))
        | inr e ↦ subst (λ (d : Clock). base j ≤ d j) (sym (clock_plain e)) (omega arith)
      ]

  read_low : here.kind ≡ 1 → (j : ℕ) → s.writes here.subject j ≤ c j
  read_low e j = subst (λ (d : Clock). s.writes here.subject j ≤ d j) (sym (clock_read e)) (le-max_right (base j) (s.writes here.subject j))

  clock_cases : (j : ℕ) → (c j ≡ base j) ⊎ ((here.kind ≡ 1) × (c j ≡ s.writes here.subject j))
  clock_cases j =
      elim (cases_eq here.kind 1) [
        | inl e ↦
            let q : c j ≡ max (base j) (s.writes here.subject j) = ap (λ (d : Clock). d j) (clock_read e) in
            elim (max_one (base j) (s.writes here.subject j)) [
              | inl p ↦ inl (q ∙ p)
              | inr p ↦ inr (e, q ∙ p)
            ]
        | inr e ↦ inl (ap (λ (d : Clock). d j) (clock_plain e))
      ]

  -- the thread has seen all of its own
  own_full : s.threads t t ≡ count es t k
  own_full =
      elim (cases_lt (s.threads t t) (count es t k)) [
        | inl h ↦
            let m = count_met es t (s.threads t t) k h in
            let n : m.0 < length es = omega arith in
            let p = sound.places m.0 n in
            let q : count es (thread_at es m.0) m.0 ≡ s.threads t t = ap (λ u. count es u m.0) m.2 ∙ m.3 in
            let v : s.threads t (thread_at es m.0) ≡ s.threads t t = ap (s.threads t) m.2 in
            absurd (omega (arith, (known.seen t m.0 n).1 (m.0, m.1, m.2, inl refl)))
        | inr h ↦ omega (arith, known.threads_noted t t)
      ]

  earlier : (f : ℕ) → f < k → thread_at es f ≡ t → Before es f k
  earlier f h e = in_thread (omega arith) l e (places_up es sound f k h l e)

  seen_before : (e : ℕ) → e < length es → place_at es e ≤ s.threads t (thread_at es e) → UpTo es e k
  seen_before e h p =
      let f = (known.seen t e h).0 p in
      upto_then es e f.0 k f.3 (earlier f.0 f.1 f.2)

  clock_to : (e : ℕ) → e < length es → place_at es e ≤ c (thread_at es e) → UpTo es e k
  clock_to e h p =
      elim (clock_cases (thread_at es e)) [
        | inl q ↦
            elim (cases_eq t (thread_at es e)) [
              | inl own ↦
                  let v : base (thread_at es e) ≡ suc (s.threads t (thread_at es e)) = advance_own t (s.threads t) (thread_at es e) own in
                  elim (cases_lt (s.threads t (thread_at es e)) (place_at es e)) [
                    | inl m ↦
                        let u : s.threads t (thread_at es e) ≡ s.threads t t = ap (s.threads t) (sym own) in
                        inl (same_event es sound e k h l (sym own) (omega (arith, own_full, sound.places k l)))
                    | inr m ↦ seen_before e h m
                  ]
              | inr own ↦
                  let v : base (thread_at es e) ≡ s.threads t (thread_at es e) = advance_other t (s.threads t) (thread_at es e) own in
                  seen_before e h (omega arith)
            ]
        | inr q ↦
            let g = (known.got here.subject e h).0 (omega (arith, q.1)) in
            let r : Reads es here.subject k = record { noted = l; kind = q.0; subject = refl } in
            upto_then es e g.0 k g.4 (fed (value here.subject g.2 r g.1 g.3))
      ]

  base_up : (j : ℕ) → s.threads t j ≤ base j
  base_up j =
      elim (cases_eq t j) [
        | inl q ↦ omega (arith, advance_own t (s.threads t) j q)
        | inr q ↦ omega (arith, advance_other t (s.threads t) j q)
      ]

  at_own : place_at es k ≤ c t
  at_own = omega (arith, own_full, sound.places k l, advance_own t (s.threads t) t refl, base_low t)

  clock_from : (e : ℕ) → e < length es → UpTo es e k → place_at es e ≤ c (thread_at es e)
  clock_from e h (inl q) = subst (λ i. place_at es i ≤ c (thread_at es i)) (sym q) at_own
  clock_from e h (inr b) =
      let d = direct_step es sound b in
      elim d.1 [
        | inl q ↦
            omega (arith, (known.seen t e h).1 (d.0, q.1, q.0, d.2), base_up (thread_at es e), base_low (thread_at es e))
        | inr q ↦
            let x : here.subject ≡ q.0 = q.2.subject in
            let g : place_at es e ≤ s.writes q.0 (thread_at es e) = (known.got q.0 e h).1 (d.0, q.3, q.1, q.4, d.2) in
            let g' : place_at es e ≤ s.writes here.subject (thread_at es e) = subst (λ y. place_at es e ≤ s.writes y (thread_at es e)) (sym x) g in
            omega (arith, read_low q.2.kind (thread_at es e))
      ]

  clock_noted : (j : ℕ) → c j ≤ count es j (suc k)
  clock_noted j =
      let up = count_up es j k (suc k) (omega arith) in
      elim (clock_cases j) [
        | inl q ↦
            elim (cases_eq t j) [
              | inl own ↦ omega (arith, advance_own t (s.threads t) j own, count_own es j k own, known.threads_noted t j)
              | inr own ↦ omega (arith, advance_other t (s.threads t) j own, known.threads_noted t j)
            ]
        | inr q ↦ omega (arith, q.1, known.writes_noted here.subject j)
      ]

  pub next_writes : (x : ℕ) → (Writes es x k × ((step s here).writes x ≡ c)) ⊎ ((Writes es x k → ⊥) × ((step s here).writes x ≡ s.writes x))
  next_writes x =
      elim (cases_eq here.kind 2) [
        | inl q ↦
            let z : (step s here).writes ≡ put here.subject c s.writes
            = ap (λ b. cond b (put here.subject c s.writes) s.writes) (eq-eqb here.kind 2 q) in
            let z' : (step s here).writes x ≡ put here.subject c s.writes x = ap (λ (v : ℕ → Clock). v x) z in
            elim (cases_eq here.subject x) [
              | inl p ↦ inl (record { noted = l; kind = q; subject = p }, z' ∙ put_own here.subject x c s.writes p)
              | inr p ↦ inr (λ w. p w.subject, z' ∙ put_other here.subject x c s.writes p)
            ]
        | inr q ↦
            let z : (step s here).writes ≡ s.writes
            = ap (λ b. cond b (put here.subject c s.writes) s.writes) (ne_eqb here.kind 2 q) in
            inr (λ w. q w.kind, ap (λ (v : ℕ → Clock). v x) z)
      ]

  pub next_threads : (u : ℕ) → ((t ≡ u) × ((step s here).threads u ≡ c)) ⊎ ((t ≡ u → ⊥) × ((step s here).threads u ≡ s.threads u))
  next_threads u =
      elim (cases_eq t u) [
        | inl q ↦ inl (q, put_own t u c s.threads q)
        | inr q ↦ inr (q, put_other t u c s.threads q)
      ]

  seen_to : (u e : ℕ) → t ≡ u → Seen es (suc k) u e → UpTo es e k
  seen_to u e q f =
      elim (cases_lt f.0 k) [
        | inl h ↦ upto_then es e f.0 k f.3 (earlier f.0 h (f.2 ∙ sym q))
        | inr h ↦ let z : f.0 ≡ k = omega arith in subst (UpTo es e) z f.3
      ]

  seen_back : (u e : ℕ) → (t ≡ u → ⊥) → Seen es (suc k) u e → Seen es k u e
  seen_back u e q f =
      elim (cases_lt f.0 k) [
        | inl h ↦ (f.0, h, f.2, f.3)
        | inr h ↦ let z : f.0 ≡ k = omega arith in absurd (q (ap (thread_at es) (sym z) ∙ f.2))
      ]

  got_to : (x e : ℕ) → Writes es x k → Got es (suc k) x e → UpTo es e k
  got_to x e w g =
      elim (cases_lt g.0 k) [
        | inl h ↦ absurd (g.3 k h (omega arith) w)
        | inr h ↦ let z : g.0 ≡ k = omega arith in subst (UpTo es e) z g.4
      ]

  got_back : (x e : ℕ) → (Writes es x k → ⊥) → Got es (suc k) x e → Got es k x e
  got_back x e n g =
      elim (cases_lt g.0 k) [
        | inl h ↦ (g.0, h, g.2, (λ q a b. g.3 q a (omega arith)), g.4)
        | inr h ↦ let z : g.0 ≡ k = omega arith in absurd (n (subst (Writes es x) z g.2))
      ]

  got_on : (x e : ℕ) → (Writes es x k → ⊥) → Got es k x e → Got es (suc k) x e
  got_on x e n g = (
    g.0,
    omega arith,
    g.2,
    (λ q a b w.
        elim (cases_lt q k) [
          | inl h ↦ g.3 q a h w
          | inr h ↦ let z : q ≡ k = omega arith in n (subst (Writes es x) z w)
        ]),
    g.4,
  )

  knows_next : Knows es (suc k) (step s here)
  knows_next = record {
    seen = λ u e h.
        let P : Clock → Type 0 = λ d. (place_at es e ≤ d (thread_at es e) → Seen es (suc k) u e) × (Seen es (suc k) u e → place_at es e ≤ d (thread_at es e)) in
        elim (next_threads u) [
          | inl q ↦ subst P (sym q.1) ((λ p. (k, omega arith, q.0, clock_to e h p)), (λ f. clock_from e h (seen_to u e q.0 f)))
          | inr q ↦ subst P (sym q.1) (
            (λ p. let f = (known.seen u e h).0 p in (f.0, omega arith, f.2, f.3)),
            (λ f. (known.seen u e h).1 (seen_back u e q.0 f)),
          )
        ];
    got = λ x e h.
        let P : Clock → Type 0 = λ d. (place_at es e ≤ d (thread_at es e) → Got es (suc k) x e) × (Got es (suc k) x e → place_at es e ≤ d (thread_at es e)) in
        elim (next_writes x) [
          | inl q ↦ subst P (sym q.1) ((λ p. (k, omega arith, q.0, (λ j a b w. omega arith), clock_to e h p)), (λ g. clock_from e h (got_to x e q.0 g)))
          | inr q ↦ subst P (sym q.1) (
            (λ p. got_on x e q.0 ((known.got x e h).0 p)),
            (λ g. (known.got x e h).1 (got_back x e q.0 g)),
          )
        ];
    threads_noted = λ u j.
        elim (next_threads u) [
          | inl q ↦ subst (λ (d : Clock). d j ≤ count es j (suc k)) (sym q.1) (clock_noted j)
          | inr q ↦ subst (λ (d : Clock). d j ≤ count es j (suc k)) (sym q.1) (omega (arith, known.threads_noted u j, count_up es j k (suc k) (omega arith)))
        ];
    writes_noted = λ x j.
        elim (next_writes x) [
          | inl q ↦ subst (λ (d : Clock). d j ≤ count es j (suc k)) (sym q.1) (clock_noted j)
          | inr q ↦ subst (λ (d : Clock). d j ≤ count es j (suc k)) (sym q.1) (omega (arith, known.writes_noted x j, count_up es j k (suc k) (omega arith)))
        ];
  }

  counts_here : (j : ℕ) → Counts es k j ((step s here).threads t j)
  counts_here j =
      subst (λ (d : Clock). Counts es k j (d j)) (sym (put_own t t c s.threads refl))
      (counts_from es sound k j (c j)
      (λ e h q.
      let z : c (thread_at es e) ≡ c j = ap c q in
      ((λ u. omega (arith, clock_from e h u)), (λ p. clock_to e h (omega arith))))
      (omega (arith, clock_noted j, count_up es j (suc k) (length es) l)))

pub knows : (es : List Event) → Sound es → (k : ℕ) → k ≤ length es → Knows es k (scan es k)
knows es sound zero h = record {
  seen = λ t e l. ((λ p. absurd (omega (arith, sound.places e l))), (λ f. absurd (omega arith)));
  got = λ x e l. ((λ p. absurd (omega (arith, sound.places e l))), (λ f. absurd (omega arith)));
  threads_noted = λ t j. omega arith;
  writes_noted = λ x j. omega arith;
}
knows es sound (suc k) h = knows_next es sound k h (scan es k) (knows es sound k (omega arith))

pub scan_counts : (es : List Event) → Sound es → (i t : ℕ) → i < length es → Counts es i t (clock_at es i t)
scan_counts es sound i t h = counts_here es sound i h (scan es i) (knows es sound i (omega arith)) t
