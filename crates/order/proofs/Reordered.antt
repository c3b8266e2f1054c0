-- A consistent run keeps what feeds what, and an ordering that is a sound list and keeps it is a consistent run.
use Rattle.std.proofs.Common.{◌≡◌, ℕ, zero, suc, ◌<◌, ◌≤◌, cond, eqb, ◌⊎◌, List, length, get_or, sym, refl, ap, ◌∙◌, subst, inl, inr, arith}
use Rattle.std.proofs.lemmas.List.{length-map, get_or-map}
use Rattle.std.proofs.lemmas.Bool.{cases_lt, cases_order}
use Rattle.events.specs.declared.event.Event.{Event}
use Rattle.order.specs.Trace.{blank, thread_at, place_at, Is, Writes, Acquires, Releases, Object, Of}
use Rattle.order.specs.Trace.Object.{variable, lock}
use Rattle.order.specs.Before.{NoneBetween, Feeds, Before}
use Rattle.order.specs.Before.Feeds.{value, hold}
use Rattle.order.specs.Before.Before.{in_thread, fed, chain}
use Rattle.order.specs.Groups.{Group, Member, Touches}
use Rattle.order.specs.Groups.Group.{led, starting}
use Rattle.order.specs.Runs.{Ordering, Consistent, reordered, SameFeeds, KeepsLast}
use Rattle.order.specs.Cuts.{empty_cut}
use Rattle.order.specs.Tests.{of_lock}
use Rattle.order.specs.Sound.{count, Holds, Sound}
use Rattle.order.proofs.Cuts.{after, after_suc}
use Rattle.order.proofs.Paths.{path}
use Rattle.order.proofs.Order as noted
use Rattle.order.proofs.Decided.{before_noted, feeds_noted, decides_lock, led_noted}
use Rattle.order.proofs.Feeders.{clash, first_from_lem, one_feeder, one_release, reads_from, release_from, feeds_leads, releases_of, no_feeder}

-- the event at a place of the run, and the event of that number in the reordered list, are the same
module _ (es : List Event) (r : List ℕ) (o : Ordering es r) where
  pub rep_at : (p : ℕ) → p < length r → get_or (reordered es r) p blank ≡ get_or es (get_or r p 0) blank
  rep_at p h = get_or-map (λ i. get_or es i blank) r p 0 blank h

  pub rep_length : length (reordered es r) ≡ length r
  rep_length = length-map r (λ i. get_or es i blank)

  pub rep_thread : (p : ℕ) → p < length r → thread_at (reordered es r) p ≡ thread_at es (get_or r p 0)
  rep_thread p h = ap (λ (e : Event). e.thread) (rep_at p h)

  pub rep_place : (p : ℕ) → p < length r → place_at (reordered es r) p ≡ place_at es (get_or r p 0)
  rep_place p h = ap (λ (e : Event). e.place) (rep_at p h)

  pub within : (k s p : ℕ) → Is (reordered es r) k s p → p < length r
  within k s p i = omega (arith, rep_length, i.noted)

  to_rep : (k s p : ℕ) → p < length r → Is es k s (get_or r p 0) → Is (reordered es r) k s p
  to_rep k s p h i = record {
    noted = omega (arith, rep_length);
    kind = ap (λ (e : Event). e.kind) (rep_at p h) ∙ i.kind;
    subject = ap (λ (e : Event). e.subject) (rep_at p h) ∙ i.subject;
  }

  pub from_rep : (k s p : ℕ) → Is (reordered es r) k s p → Is es k s (get_or r p 0)
  from_rep k s p i =
      let h = within k s p i in
      record {
        noted = o.noted p h;
        kind = ap (λ (e : Event). e.kind) (sym (rep_at p h)) ∙ i.kind;
        subject = ap (λ (e : Event). e.subject) (sym (rep_at p h)) ∙ i.subject;
      }

  of_to_rep : (b : Object) (p : ℕ) → p < length r → Of es b (get_or r p 0) → Of (reordered es r) b p
  of_to_rep (variable x) p h (inl i) = inl (to_rep 1 x p h i)
  of_to_rep (variable x) p h (inr i) = inr (to_rep 2 x p h i)
  of_to_rep (lock x) p h (inl i) = inl (to_rep 3 x p h i)
  of_to_rep (lock x) p h (inr i) = inr (to_rep 4 x p h i)

  of_from_rep : (b : Object) (p : ℕ) → Of (reordered es r) b p → Of es b (get_or r p 0)
  of_from_rep (variable x) p (inl i) = inl (from_rep 1 x p i)
  of_from_rep (variable x) p (inr i) = inr (from_rep 2 x p i)
  of_from_rep (lock x) p (inl i) = inl (from_rep 3 x p i)
  of_from_rep (lock x) p (inr i) = inr (from_rep 4 x p i)

  count_rep : (t k : ℕ) → k ≤ length r → count (reordered es r) t k ≡ after es empty_cut r k t
  count_rep t zero h = refl
  count_rep t (suc k) h =
      let e : after es empty_cut r (suc k) t ≡ cond (eqb (thread_at es (get_or r k 0)) t) (suc (after es empty_cut r k t)) (after es empty_cut r k t)
      = ap (λ c. c t) (after_suc es empty_cut r k h) in
      let ih = count_rep t k (omega arith) in
      let f : thread_at (reordered es r) k ≡ thread_at es (get_or r k 0) = rep_thread k h in
      rw (e, f, ih)

-- a consistent run is a sound list with the same feeds
module _ (es : List Event) (sound : Sound es) (r : List ℕ) (run : Consistent es r) where
  -- an event of the lock or variable of r's event j, standing between it and what it feeds, is of its group
  outside : (j m k : ℕ) (b : Object) → j < m → m < k → k < length r → Feeds es (get_or r j 0) (get_or r k 0)
      → Of es b (get_or r j 0) → Of es b (get_or r m 0) → (Feeds es (get_or r j 0) (get_or r m 0) → ⊥) → ⊥
  outside j m k b u v l h c d n =
      run.together (led (get_or r j 0)) j m k u v l (inl (feeds_leads es (get_or r j 0) (get_or r k 0) h, refl)) (inr h) (b, c, d) other
    where
      other : Member es (led (get_or r j 0)) (get_or r m 0) → ⊥
      other (inl q) = omega (arith, run.ordering.once m j (omega arith) (omega arith) q.1)
      other (inr q) = n q

  pub feeds_to_rep : (j k : ℕ) → j < length r → k < length r → Feeds es (get_or r j 0) (get_or r k 0) → Feeds (reordered es r) j k
  feeds_to_rep j k a b h = go h refl
    where
      ahead : j < k
      ahead = run.in_order j k a b (fed h)

      no_write : (x m : ℕ) → Writes es x (get_or r m 0) → Feeds es (get_or r j 0) (get_or r m 0) → ⊥
      no_write x m w (value y c d e f) = clash es 2 x 1 y (get_or r m 0) (λ z. omega arith) w d
      no_write x m w (hold y c d e f) = clash es 2 x 4 y (get_or r m 0) (λ z. omega arith) w d

      go : (g : Feeds es (get_or r j 0) (get_or r k 0)) → h ≡ g → Feeds (reordered es r) j k
      go (value x w d l n) e =
          value x (to_rep es r run.ordering 2 x j a w) (to_rep es r run.ordering 1 x k b d) ahead
          (λ m u v i.
          let c = from_rep es r run.ordering 2 x m i in
          outside j m k (variable x) u v b h (inr w) (inr c) (no_write x m c))
      go (hold x w d l n) e =
          hold x (to_rep es r run.ordering 3 x j a w) (to_rep es r run.ordering 4 x k b d) ahead
          (λ m u v i.
          outside j m k (lock x) u v b h (inl w) (of_from_rep es r run.ordering (lock x) m i)
          (λ f. omega (arith, run.ordering.once m k (omega arith) b (one_release es (get_or r j 0) (get_or r m 0) (get_or r k 0) x w f h))))

  -- where r's event k is fed by some event, the reordered list's feeder of k is that event
  fed_by : (j k e : ℕ) → j < length r → k < length r → Feeds (reordered es r) j k → Feeds es e (get_or r k 0) → Feeds es (get_or r j 0) (get_or r k 0)
  fed_by j k e a b h f =
      let s = run.ordering.each e (feeds_noted es e (get_or r k 0) f).0 in
      let g : Feeds es (get_or r s.0 0) (get_or r k 0) = subst (λ i. Feeds es i (get_or r k 0)) (sym s.2) f in
      let q : s.0 ≡ j = one_feeder (reordered es r) s.0 j k (feeds_to_rep s.0 k s.1 b g) h in
      subst (λ p. Feeds es (get_or r p 0) (get_or r k 0)) q g

  pub feeds_from_rep : (j k : ℕ) → j < length r → k < length r → Feeds (reordered es r) j k → Feeds es (get_or r j 0) (get_or r k 0)
  feeds_from_rep j k a b h = go h refl
    where
      go : (g : Feeds (reordered es r) j k) → h ≡ g → Feeds es (get_or r j 0) (get_or r k 0)
      go (value x w d l n) e =
          let w' = from_rep es r run.ordering 2 x j w in
          elim (reads_from es x (get_or r k 0) (from_rep es r run.ordering 1 x k d)) [
            | inl s ↦ absurd (omega (arith, run.starts x k j b a s (inr w') (λ m. clash es 2 x 1 x (get_or r j 0) (λ z. omega arith) w' m.0)))
            | inr s ↦ fed_by j k s.0 a b h s.1
          ]
      go (hold x w d l n) e =
          let s = release_from es sound x (get_or r k 0) (from_rep es r run.ordering 4 x k d) in
          fed_by j k s.0 a b h s.1

  module _ (last : KeepsLast es r) where
    -- no acquire while the lock is held
    rep_acquires : (l i : ℕ) → Acquires (reordered es r) l i → (t : ℕ) → Holds (reordered es r) t l i → ⊥
    rep_acquires l i a t h =
        let o = run.ordering in
        let j : ℕ = h.since in
        let lj = within es r o 3 l j h.acquired in
        let li = within es r o 3 l i a in
        let aj = from_rep es r o 3 l j h.acquired in
        let ai = from_rep es r o 3 l i a in
        last l j i h.earlier li aj
        (λ f g.
        let s = o.each f (feeds_noted es (get_or r j 0) f g).1 in
        let g' : Feeds es (get_or r j 0) (get_or r s.0 0) = subst (Feeds es (get_or r j 0)) (sym s.2) g in
        released s.0 lj s.1 aj ai g')
        (inl ai)
      where
        released : (m : ℕ) → h.since < length r → m < length r → Acquires es l (get_or r h.since 0) → Acquires es l (get_or r i 0)
            → Feeds es (get_or r h.since 0) (get_or r m 0) → ⊥
        released m u v c d g =
            let rel = releases_of es (get_or r h.since 0) (get_or r m 0) l c g in
            let ahead = run.in_order h.since m u v (fed g) in
            elim (cases_order m i) [
              | inl q ↦ clash es 3 l 4 l (get_or r i 0) (λ z. omega arith) d (subst (λ p. Releases es l (get_or r p 0)) q rel)
              | inr q ↦ elim q [
                | inl k ↦ h.kept m ahead k (to_rep es r run.ordering 4 l m v rel)
                | inr k ↦
                    outside h.since i m (lock l) h.earlier k v g (inl c) (inl d)
                    (λ f. clash es 3 l 4 l (get_or r i 0) (λ z. omega arith) d (releases_of es (get_or r h.since 0) (get_or r i 0) l c f))
              ]
            ]

    rep_releases : (l i : ℕ) → Releases (reordered es r) l i → Holds (reordered es r) (thread_at (reordered es r) i) l i
    rep_releases l i a =
        let o = run.ordering in
        let li = within es r o 4 l i a in
        let s = release_from es sound l (get_or r i 0) (from_rep es r o 4 l i a) in
        let p = o.each s.0 s.2.noted in
        let f : Feeds es (get_or r p.0 0) (get_or r i 0) = subst (λ e. Feeds es e (get_or r i 0)) (sym p.2) s.1 in
        let c : Acquires es l (get_or r p.0 0) = subst (Acquires es l) (sym p.2) s.2 in
        let ahead = run.in_order p.0 i p.1 li (fed f) in
        record {
          since = p.0;
          earlier = ahead;
          acquired = to_rep es r o 3 l p.0 p.1 c;
          own = rep_thread es r o p.0 p.1 ∙ ap (thread_at es) p.2 ∙ s.3 ∙ sym (rep_thread es r o i li);
          kept = λ m u v k.
              let k' = from_rep es r o 4 l m k in
              outside p.0 m i (lock l) u v li f (inl c) (inr k')
              (λ g. omega (arith, o.once m i (omega arith) li (one_release es (get_or r p.0 0) (get_or r m 0) (get_or r i 0) l c g f)));
        }

    pub sound_rep : Sound (reordered es r)
    sound_rep = record {
      places = λ i h.
          let o = run.ordering in
          let l : i < length r = omega (arith, rep_length es r o) in
          let n = ((path es sound r run).follows i l).next in
          let t = rep_thread es r o i l in
          rep_place es r o i l ∙ n ∙ ap suc (sym (count_rep es r o (thread_at es (get_or r i 0)) i (omega arith))) ∙ ap (λ u. suc (count (reordered es r) u i)) (sym t);
      acquires = rep_acquires;
      releases = rep_releases;
    }

-- an ordering that is a sound list with the same feeds is a consistent run
module _ (es : List Event) (r : List ℕ) (o : Ordering es r) (sound : Sound (reordered es r)) (same : SameFeeds es r) where
  pub before_rep : {e f : ℕ} → Before es e f → (j k : ℕ) → j < length r → k < length r → get_or r j 0 ≡ e → get_or r k 0 ≡ f → Before (reordered es r) j k
  before_rep (in_thread {e = e} {f = f} a b t p) j k c d x y =
      let n = rep_length es r o in
      in_thread (omega arith) (omega arith)
      (rep_thread es r o j c ∙ ap (thread_at es) x ∙ t ∙ sym (ap (thread_at es) y) ∙ sym (rep_thread es r o k d))
      (omega (arith, rep_place es r o j c, rep_place es r o k d, ap (place_at es) x, ap (place_at es) y))
  before_rep (fed {e = e} {f = f} h) j k c d x y =
      fed ((same j k c d).0 (subst (λ i. Feeds es i (get_or r k 0)) (sym x) (subst (Feeds es e) (sym y) h)))
  before_rep (chain {f = f} p q) j k c d x y =
      let s = o.each f (before_noted es p).1 in
      chain (before_rep p j s.0 c s.1 x s.2) (before_rep q s.0 k s.1 d s.2 y)

  -- groups are the same
  led_to : (p q : ℕ) → p < length r → q < length r → Member es (led (get_or r p 0)) (get_or r q 0) → Member (reordered es r) (led p) q
  led_to p q a b (inl h) = inl ((h.0.0, leads h.0.1), o.once q p b a h.1)
    where
      leads : Writes es h.0.0 (get_or r p 0) ⊎ Acquires es h.0.0 (get_or r p 0) → Writes (reordered es r) h.0.0 p ⊎ Acquires (reordered es r) h.0.0 p
      leads (inl w) = inl (to_rep es r o 2 h.0.0 p a w)
      leads (inr w) = inr (to_rep es r o 3 h.0.0 p a w)
  led_to p q a b (inr h) = inr ((same p q a b).0 h)

  led_from : (p q : ℕ) → p < length r → q < length r → Member (reordered es r) (led p) q → Member es (led (get_or r p 0)) (get_or r q 0)
  led_from p q a b (inl h) = inl ((h.0.0, leads h.0.1), ap (λ m. get_or r m 0) h.1)
    where
      leads : Writes (reordered es r) h.0.0 p ⊎ Acquires (reordered es r) h.0.0 p → Writes es h.0.0 (get_or r p 0) ⊎ Acquires es h.0.0 (get_or r p 0)
      leads (inl w) = inl (from_rep es r o 2 h.0.0 p w)
      leads (inr w) = inr (from_rep es r o 3 h.0.0 p w)
  led_from p q a b (inr h) = inr ((same p q a b).1 h)

  start_to : (x q : ℕ) → q < length r → Member es (starting x) (get_or r q 0) → Member (reordered es r) (starting x) q
  start_to x q b m =
      elim (reads_from (reordered es r) x q (to_rep es r o 1 x q b m.0)) [
        | inl s ↦ s
        | inr s ↦
            let n = rep_length es r o in
            let c : s.0 < length r = omega (arith, (feeds_noted (reordered es r) s.0 q s.1).0) in
            absurd (no_feeder es (get_or r s.0 0) (get_or r q 0) x m ((same s.0 q c b).1 s.1))
      ]

  pub start_from : (x q : ℕ) → q < length r → Member (reordered es r) (starting x) q → Member es (starting x) (get_or r q 0)
  start_from x q b m =
      elim (reads_from es x (get_or r q 0) (from_rep es r o 1 x q m.0)) [
        | inl s ↦ s
        | inr s ↦
            let p = o.each s.0 (feeds_noted es s.0 (get_or r q 0) s.1).0 in
            absurd (no_feeder (reordered es r) p.0 q x m ((same p.0 q p.1 b).0 (subst (λ e. Feeds es e (get_or r q 0)) (sym p.2) s.1)))
      ]

  together : (g : Group) (j k l : ℕ) → j < k → k < l → l < length r → Member es g (get_or r j 0) → Member es g (get_or r l 0)
      → Touches es g (get_or r k 0) → Member es g (get_or r k 0)
  together (led e) j k l a b c m n t =
      let d : k < length r = omega arith in
      let p = o.each e (led_noted es e (get_or r j 0) m) in
      let q : e ≡ get_or r p.0 0 = sym p.2 in
      let m' = led_to p.0 j p.1 (omega arith) (subst (λ i. Member es (led i) (get_or r j 0)) q m) in
      let n' = led_to p.0 l p.1 c (subst (λ i. Member es (led i) (get_or r l 0)) q n) in
      let t' : Touches (reordered es r) (led p.0) k
      = (t.0, of_to_rep es r o t.0 p.0 p.1 (subst (Of es t.0) q t.1), of_to_rep es r o t.0 k d t.2) in
      subst (λ i. Member es (led i) (get_or r k 0)) p.2
      (led_from p.0 k p.1 d (noted.together (reordered es r) sound (led p.0) j k l a b m' n' t'))
  together (starting x) j k l a b c m n t =
      let d : k < length r = omega arith in
      start_from x k d
      (noted.together (reordered es r) sound (starting x) j k l a b (start_to x j (omega arith) m) (start_to x l c n) (of_to_rep es r o (variable x) k d t))

  pub consistent_from : Consistent es r
  consistent_from = record {
    ordering = o;
    in_order = λ j k a b h. noted.before_later (reordered es r) sound (before_rep h j k a b refl refl);
    together = λ g j k l a b c m n t z. z (together g j k l a b c m n t);
    starts = λ x j k a b m t z.
        elim (cases_lt j k) [
          | inl l ↦ l
          | inr l ↦
              absurd (z (start_from x k b
              (noted.start_between (reordered es r) sound x k j l (start_to x j a m) (of_to_rep es r o (variable x) k b t))))
        ];
  }

  -- the first event of a lock behind an acquire of it is its release
  next_release : (l j m : ℕ) → j < m → Acquires (reordered es r) l j → NoneBetween j m (Of (reordered es r) (lock l)) → Of (reordered es r) (lock l) m → Feeds (reordered es r) j m
  next_release l j m a b n (inr h) = hold l b h a n
  next_release l j m a b n (inl h) =
      absurd (sound.acquires l m h (thread_at (reordered es r) j)
      (record { since = j; earlier = a; acquired = b; own = refl; kept = λ q u v k. n q u v (inr k) }))

  pub keeps_last_from : KeepsLast es r
  keeps_last_from l j k a b c never d =
      let n = rep_length es r o in
      let lj : j < length r = omega arith in
      let c' = to_rep es r o 3 l j lj c in
      elim (first_from_lem (of_lock (reordered es r) l) (Of (reordered es r) (lock l)) (decides_lock (reordered es r) l) j (suc k)) [
        | inl s ↦
            let m : s.0 < length r = omega arith in
            never (get_or r s.0 0) ((same j s.0 lj m).1 (next_release l j s.0 s.1 c' s.4 s.3))
        | inr s ↦ s k a (omega arith) (of_to_rep es r o (lock l) k b d)
      ]
