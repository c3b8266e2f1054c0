-- The tests decide what is before what, what may follow a cut, which thread lists are accepted, and which runs are consistent.
use Rattle.std.proofs.Common.{◌≡◌, ℕ, suc, ◌<◌, ◌≤◌, Bool, not, ◌&&◌, eqb, ltb, List, [], ◌∷◌, length, get_or, Decides, subst, inl, inr, arith}
use Rattle.std.proofs.lemmas.Bool.{cases_lt, cases_eq}
use Rattle.std.proofs.lemmas.Bool.Decides.{Decides-eqb, Decides-ltb, Decides-like, Decides-not, Decides-and}
use Rattle.events.specs.declared.event.Event.{Event}
use Rattle.order.specs.Trace.{thread_at, place_at, subject_at, Of}
use Rattle.order.specs.Trace.Object.{variable}
use Rattle.order.specs.Before.{Before}
use Rattle.order.specs.Groups.{Group, Member, Touches}
use Rattle.order.specs.Groups.Group.{led, starting}
use Rattle.order.specs.Runs.{Ordering, Consistent}
use Rattle.order.specs.Cuts.{Cut, empty_cut, advance, In, Open, MayFollow, AcceptedFrom, Accepted}
use Rattle.order.specs.Clocks.{clock_at}
use Rattle.order.specs.Tests.{every, some, before, member, in_cut, blocks, may_follow, accepts_from, accepts, ordering, in_order, outside, together, starts_first, consistent}
use Rattle.order.specs.Sound.{Sound}
use Rattle.order.proofs.Decided.{decides_every, decides_some, decides_leb, decides_unless, decides_member, decides_touches, decides_in, decides_open, before_noted, of_noted, led_noted}
use Rattle.order.proofs.Order.{before_later}
use Rattle.order.proofs.Numbers.{before_by_clock}
use Rattle.order.proofs.Clocks.{scan_counts}

module _ (es : List Event) where
  variable_subject : (x i : ℕ) → Of es (variable x) i → subject_at es i ≡ x
  variable_subject x i (inl h) = h.subject
  variable_subject x i (inr h) = h.subject

  abbrev Blocks : Cut → ℕ → Group → Type 0
  Blocks c i g = Touches es g i × ((Member es g i → ⊥) × Open es c g)

  decides_blocks : (c : Cut) (i : ℕ) (g : Group) → Decides (blocks es c i g) (Blocks c i g)
  decides_blocks c i g =
      Decides-and _ _ (decides_touches es g i) (Decides-and _ _ (Decides-not (member es g i) (decides_member es g i)) (decides_open es c g))

  -- a group that blocks is led by a noted event, or is the starting group of the event's variable
  alone_from : (c : Cut) (i : ℕ) → ((e : ℕ) → e < length es → Blocks c i (led e) → ⊥) → (Blocks c i (starting (subject_at es i)) → ⊥)
      → (g : Group) → Touches es g i → (Member es g i → ⊥) → Open es c g → ⊥
  alone_from c i a b (led e) t n o = a e (of_noted es t.0 e t.1) (t, (n, o))
  alone_from c i a b (starting x) t n o =
      subst (λ y. Blocks c i (starting y) → ⊥) (variable_subject x i t) b (t, (n, o))

  module _ (sound : Sound es) where
    pub decides_before : (e f : ℕ) → Decides (before es e f) (Before es e f)
    decides_before e f =
        Decides-like (before es e f) to from
        (Decides-and _ _ (Decides-ltb e (length es)) (Decides-and _ _ (Decides-ltb f (length es))
        (Decides-and _ _ (Decides-not (eqb e f) (Decides-eqb e f)) (decides_leb (place_at es e) (clock_at es f (thread_at es e))))))
      where
        to : (e < length es) × ((f < length es) × ((e ≡ f → ⊥) × (place_at es e ≤ clock_at es f (thread_at es e)))) → Before es e f
        to h =
            let u = (before_by_clock es sound e f (clock_at es f (thread_at es e)) h.0 h.1.0 (scan_counts es sound f (thread_at es e) h.1.0)).1 h.1.1.1 in
            elim u [ inl q ↦ absurd (h.1.1.0 q) | inr b ↦ b ]

        from : Before es e f → (e < length es) × ((f < length es) × ((e ≡ f → ⊥) × (place_at es e ≤ clock_at es f (thread_at es e))))
        from b =
            let n = before_noted es b in
            let c = scan_counts es sound f (thread_at es e) n.1 in (
              n.0,
              (
                n.1,
                ((λ q. omega (arith, before_later es sound b)), (before_by_clock es sound e f (clock_at es f (thread_at es e)) n.0 n.1 c).0 (inr b)),
              ),
            )

    -- what the test of an event asks
    abbrev Asked : Cut → ℕ → Type 0
    Asked c i =
        (i < length es)
        × ((place_at es i ≡ suc (c (thread_at es i)))
        × (((j : ℕ) → j < length es → Before es j i → (In es c j → ⊥) → ⊥)
        × (((e : ℕ) → e < length es → Blocks c i (led e) → ⊥)
        × (Blocks c i (starting (subject_at es i)) → ⊥))))

    pub decides_may_follow : (c : Cut) (i : ℕ) → Decides (may_follow es c i) (MayFollow es c i)
    decides_may_follow c i =
        Decides-like (may_follow es c i) to from
        (Decides-and _ _ (Decides-ltb i (length es)) (Decides-and _ _ (Decides-eqb (place_at es i) (suc (c (thread_at es i))))
        (Decides-and _ _
        (decides_every (λ j. not (before es j i && not (in_cut es c j))) (λ j. Before es j i → (In es c j → ⊥) → ⊥)
        (λ j. decides_unless (before es j i) (not (in_cut es c j)) (decides_before j i) (Decides-not (in_cut es c j) (decides_in es c j))) (length es))
        (Decides-and _ _
        (decides_every (λ e. not (blocks es c i (led e))) (λ e. Blocks c i (led e) → ⊥)
        (λ e. Decides-not (blocks es c i (led e)) (decides_blocks c i (led e))) (length es))
        (Decides-not (blocks es c i (starting (subject_at es i))) (decides_blocks c i (starting (subject_at es i))))))))
      where
        to : Asked c i → MayFollow es c i
        to a = record {
          noted = a.0;
          next = a.1.0;
          ready = λ j l b.
              elim (cases_lt (c (thread_at es j)) (place_at es j)) [ inl q ↦ absurd (a.1.1.0 j l b (λ z. omega arith)) | inr q ↦ q ];
          alone = alone_from c i a.1.1.1.0 a.1.1.1.1;
        }

        from : MayFollow es c i → Asked c i
        from m = (
          m.noted,
          (
            m.next,
            (
              (λ j l b n. n (m.ready j l b)),
              (
                (λ e l h. m.alone (led e) h.0 h.1.0 h.1.1),
                (λ h. m.alone (starting (subject_at es i)) h.0 h.1.0 h.1.1),
              ),
            ),
          ),
        )

    decides_accepted : (c : Cut) (ts : List ℕ) → Decides (accepts_from es c ts) (AcceptedFrom es c ts)
    decides_accepted c [] = decides_every (in_cut es c) (In es c) (decides_in es c) (length es)
    decides_accepted c (t ∷ ts) =
        Decides-like (accepts_from es c (t ∷ ts))
        (λ h. (h.0.0, h.0.2.0, h.0.2.1, h.1))
        (λ h. ((h.0, h.1.noted, (h.1, h.2)), h.3))
        (Decides-and _ _
        (decides_some (λ i. may_follow es c i && eqb (thread_at es i) t) (λ i. MayFollow es c i × (thread_at es i ≡ t))
        (λ i. Decides-and _ _ (decides_may_follow c i) (Decides-eqb (thread_at es i) t)) (length es))
        (decides_accepted (advance t c) ts))

    pub decides_accepts : (ts : List ℕ) → Decides (accepts es ts) (Accepted es ts)
    decides_accepts ts = decides_accepted empty_cut ts

    module _ (r : List ℕ) where
      abbrev at : ℕ → ℕ
      at k = get_or r k 0

      decides_ordering : Decides (ordering es r) (Ordering es r)
      decides_ordering =
          Decides-like (ordering es r)
          (λ h. record {
            noted = h.0;
            each = h.1.0;
            once = λ j k a b e. elim (cases_eq j k) [ inl q ↦ q | inr q ↦ absurd (h.1.1 j a k b e q) ];
          })
          (λ o. (o.noted, (o.each, (λ j a k b e n. n (o.once j k a b e)))))
          (Decides-and _ _
          (decides_every (λ k. ltb (at k) (length es)) (λ k. at k < length es) (λ k. Decides-ltb (at k) (length es)) (length r))
          (Decides-and _ _
          (decides_every (λ i. some (λ k. eqb (at k) i) (length r)) (λ i. (k : ℕ) × (k < length r) × (at k ≡ i))
          (λ i. decides_some (λ k. eqb (at k) i) (λ k. at k ≡ i) (λ k. Decides-eqb (at k) i) (length r)) (length es))
          (decides_every (λ j. every (λ k. not (eqb (at j) (at k) && not (eqb j k))) (length r)) (λ j. (k : ℕ) → k < length r → at j ≡ at k → (j ≡ k → ⊥) → ⊥)
          (λ j. decides_every (λ k. not (eqb (at j) (at k) && not (eqb j k))) (λ k. at j ≡ at k → (j ≡ k → ⊥) → ⊥)
          (λ k. decides_unless (eqb (at j) (at k)) (not (eqb j k)) (Decides-eqb (at j) (at k)) (Decides-not (eqb j k) (Decides-eqb j k))) (length r)) (length r))))

      decides_in_order : Decides (in_order es r) ((j k : ℕ) → j < length r → k < length r → Before es (at j) (at k) → j < k)
      decides_in_order =
          Decides-like (in_order es r)
          (λ h j k a b c. elim (cases_lt j k) [ inl l ↦ l | inr l ↦ absurd (h j a k b c (λ z. omega arith)) ])
          (λ h j a k b c n. n (h j k a b c))
          (decides_every (λ j. every (λ k. not (before es (at j) (at k) && not (ltb j k))) (length r)) (λ j. (k : ℕ) → k < length r → Before es (at j) (at k) → (j < k → ⊥) → ⊥)
          (λ j. decides_every (λ k. not (before es (at j) (at k) && not (ltb j k))) (λ k. Before es (at j) (at k) → (j < k → ⊥) → ⊥)
          (λ k. decides_unless (before es (at j) (at k)) (not (ltb j k)) (decides_before (at j) (at k)) (Decides-not (ltb j k) (Decides-ltb j k))) (length r)) (length r))

      abbrev Outside : Group → ℕ → Type 0
      Outside g k = Touches es g (at k) × (Member es g (at k) → ⊥)

      decides_outside : (g : Group) (k : ℕ) → Decides (outside es r g k) (Outside g k)
      decides_outside g k = Decides-and _ _ (decides_touches es g (at k)) (Decides-not (member es g (at k)) (decides_member es g (at k)))

      abbrev Together : Group → Type 0
      Together g = (l : ℕ) → l < length r → (k : ℕ) → k < l → (j : ℕ) → j < k → (Member es g (at j) × (Member es g (at l) × Outside g k)) → ⊥

      decides_together : (g : Group) → Decides (together es r g) (Together g)
      decides_together g =
          let test : ℕ → ℕ → ℕ → Bool = λ l k j. not (member es g (at j) && (member es g (at l) && outside es r g k)) in
          let says : ℕ → ℕ → ℕ → Type 0 = λ l k j. (Member es g (at j) × (Member es g (at l) × Outside g k)) → ⊥ in
          decides_every (λ l. every (λ k. every (test l k) k) l) (λ l. (k : ℕ) → k < l → (j : ℕ) → j < k → says l k j)
          (λ l. decides_every (λ k. every (test l k) k) (λ k. (j : ℕ) → j < k → says l k j)
          (λ k. decides_every (test l k) (says l k)
          (λ j. Decides-not (member es g (at j) && (member es g (at l) && outside es r g k))
          (Decides-and _ _ (decides_member es g (at j)) (Decides-and _ _ (decides_member es g (at l)) (decides_outside g k)))) k) l) (length r)

      abbrev Starts : ℕ → Type 0
      Starts x = (j : ℕ) → j < length r → (k : ℕ) → k < length r → Member es (starting x) (at j) → (Outside (starting x) k × (j < k → ⊥)) → ⊥

      decides_starts : (x : ℕ) → Decides (starts_first es r x) (Starts x)
      decides_starts x =
          let test : ℕ → ℕ → Bool = λ j k. not (member es (starting x) (at j) && (outside es r (starting x) k && not (ltb j k))) in
          let says : ℕ → ℕ → Type 0 = λ j k. Member es (starting x) (at j) → (Outside (starting x) k × (j < k → ⊥)) → ⊥ in
          decides_every (λ j. every (test j) (length r)) (λ j. (k : ℕ) → k < length r → says j k)
          (λ j. decides_every (test j) (says j)
          (λ k. decides_unless (member es (starting x) (at j)) (outside es r (starting x) k && not (ltb j k)) (decides_member es (starting x) (at j))
          (Decides-and _ _ (decides_outside (starting x) k) (Decides-not (ltb j k) (Decides-ltb j k)))) (length r)) (length r)

      abbrev Grouped : Type 0
      Grouped = (e : ℕ) → e < length es → Together (led e) × (Together (starting (subject_at es e)) × Starts (subject_at es e))

      -- groups are led by noted events, and starting groups have noted events of their variable
      together_from : Grouped → (g : Group) (j k l : ℕ) → j < k → k < l → l < length r → Member es g (at j) → Member es g (at l)
          → Touches es g (at k) → (Member es g (at k) → ⊥) → ⊥
      together_from h (led e) j k l a b c m n t o = (h e (led_noted es e (at j) m)).0 l c k b j a (m, (n, (t, o)))
      together_from h (starting x) j k l a b c m n t o =
          subst (λ y. Together (starting y)) m.0.subject (h (at j) m.0.noted).1.0 l c k b j a (m, (n, (t, o)))

      starts_from : Grouped → (x j k : ℕ) → j < length r → k < length r → Member es (starting x) (at j)
          → Touches es (starting x) (at k) → (Member es (starting x) (at k) → ⊥) → j < k
      starts_from h x j k a b m t o =
          elim (cases_lt j k) [
            | inl l ↦ l
            | inr l ↦ absurd (subst Starts m.0.subject (h (at j) m.0.noted).1.1 j a k b m ((t, o), (λ z. omega arith)))
          ]

      pub decides_consistent : Decides (consistent es r) (Consistent es r)
      decides_consistent =
          Decides-like (consistent es r)
          (λ h. record { ordering = h.0; in_order = h.1.0; together = together_from h.1.1; starts = starts_from h.1.1 })
          (λ c. (
            c.ordering,
            (
              c.in_order,
              (λ e l. (
                (λ q u k v j w m. c.together (led e) j k q w v u m.0 m.1.0 m.1.1.0 m.1.1.1),
                (
                  (λ q u k v j w m. c.together (starting (subject_at es e)) j k q w v u m.0 m.1.0 m.1.1.0 m.1.1.1),
                  (λ j a k b m o. o.1 (c.starts (subject_at es e) j k a b m o.0.0 o.0.1)),
                ),
              )),
            ),
          ))
          (Decides-and _ _ decides_ordering (Decides-and _ _ decides_in_order
          (decides_every (λ e. together es r (led e) && (together es r (starting (subject_at es e)) && starts_first es r (subject_at es e)))
          (λ e. Together (led e) × (Together (starting (subject_at es e)) × Starts (subject_at es e)))
          (λ e. Decides-and _ _ (decides_together (led e)) (Decides-and _ _ (decides_together (starting (subject_at es e))) (decides_starts (subject_at es e)))) (length es))))
