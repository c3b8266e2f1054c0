-- What a thread's next event has to wait for, at a cut that a path reaches.
use Rattle.std.proofs.Common.{◌≡◌, ℕ, suc, ◌<◌, ◌≤◌, Bool, not, ◌&&◌, ◌⊎◌, List, length, Decides, sym, ap, ◌∙◌, subst, inl, inr, arith}
use Rattle.std.proofs.lemmas.Bool.{cases_lt, cases_Bool}
use Rattle.std.proofs.lemmas.Bool.Decides.{Decides-and, Decides-not, not_from_Decides}
use Rattle.events.specs.declared.event.Event.{Event}
use Rattle.order.specs.Trace.{thread_at, place_at, kind_at, subject_at, Reads, Writes, Acquires, Releases, Object, Of}
use Rattle.order.specs.Trace.Object.{variable, lock}
use Rattle.order.specs.Before.{Feeds}
use Rattle.order.specs.Before.Before.{fed}
use Rattle.order.specs.Groups.{Group, Member, Touches}
use Rattle.order.specs.Groups.Group.{led, starting}
use Rattle.order.specs.Cuts.{Cut, In, MayFollow}
use Rattle.order.specs.Tests.{some, feeds, in_cut}
use Rattle.order.specs.Sound.{Sound}
use Rattle.order.specs.Maps.{Source}
use Rattle.order.specs.Waiting.{HasNext, Missing, Blocked, Unfed, Supplied, Begun, Waiting}
use Rattle.order.proofs.Closed.{Closed, ready_from}
use Rattle.order.proofs.Decided.{feeds_noted, decides_some, decides_feeds, decides_in}
use Rattle.order.proofs.Feeders.{clash, agree, one_feeder, reads_from, release_from, no_feeder}
use Rattle.order.proofs.Fair.{Fair, of_fed, of_feeds, lead_unfed, leads_self}

module _ (es : List Event) where
  subject_variable : (x i : ℕ) → Of es (variable x) i → subject_at es i ≡ x
  subject_variable x i (inl h) = h.subject
  subject_variable x i (inr h) = h.subject

  subject_lock : (x i : ℕ) → Of es (lock x) i → subject_at es i ≡ x
  subject_lock x i (inl h) = h.subject
  subject_lock x i (inr h) = h.subject

  not_both : {A : Type 0} (x y i : ℕ) → Of es (variable x) i → Of es (lock y) i → A
  not_both x y i (inl a) (inl b) = clash es 1 x 3 y i (λ z. omega arith) a b
  not_both x y i (inl a) (inr b) = clash es 1 x 4 y i (λ z. omega arith) a b
  not_both x y i (inr a) (inl b) = clash es 2 x 3 y i (λ z. omega arith) a b
  not_both x y i (inr a) (inr b) = clash es 2 x 4 y i (λ z. omega arith) a b

  one_object : (o u : Object) (i : ℕ) → Of es o i → Of es u i → o ≡ u
  one_object (variable x) (variable y) i a b = ap variable (sym (subject_variable x i a) ∙ subject_variable y i b)
  one_object (variable x) (lock y) i a b = not_both x y i a b
  one_object (lock x) (variable y) i a b = not_both y x i b a
  one_object (lock x) (lock y) i a b = ap lock (sym (subject_lock x i a) ∙ subject_lock y i b)

  touched : (g : Group) (i : ℕ) → Touches es g i → (o : Object) × Of es o i
  touched (led e) i t = (t.0, t.2)
  touched (starting x) i t = (variable x, t)

  -- what waits leads nothing
  pub begun_unled : {A : Type 0} (c : Cut) (j : ℕ) → Begun es c j → ((x : ℕ) × (Writes es x j ⊎ Acquires es x j)) → A
  begun_unled c j (inl b) w = lead_unfed es b.0 j w b.1
  begun_unled c j (inr b) (x, inl w) = clash es 1 b.0 2 x j (λ z. omega arith) b.1.0 w
  begun_unled c j (inr b) (x, inr w) = clash es 1 b.0 3 x j (λ z. omega arith) b.1.0 w

  waits_read : (c : Cut) (x j : ℕ) → Begun es c j → Of es (variable x) j → Reads es x j
  waits_read c x j b (inl h) = h
  waits_read c x j b (inr h) = begun_unled c j b (x, inl h)

  waits_release : (c : Cut) (x j : ℕ) → Begun es c j → Of es (lock x) j → Releases es x j
  waits_release c x j b (inr h) = h
  waits_release c x j b (inl h) = begun_unled c j b (x, inr h)

pub not_yet : (es : List Event) (c : Cut) (t i : ℕ) → HasNext es c t i → In es c i → ⊥
not_yet es c t i n h = let q : c (thread_at es i) ≡ c t = ap c n.own in omega (arith, n.place)

-- an event before the next one of a thread is missing just if what feeds it is
module _ (es : List Event) (c : Cut) (u i : ℕ) (next : HasNext es c u i) where
  own_next : place_at es i ≡ suc (c (thread_at es i))
  own_next = next.place ∙ ap (λ t. suc (c t)) (sym next.own)

  decides_unfed : Decides (some (λ e. feeds es e i && not (in_cut es c e)) (length es)) ((e : ℕ) × (e < length es) × (Feeds es e i × (In es c e → ⊥)))
  decides_unfed =
      decides_some (λ e. feeds es e i && not (in_cut es c e)) (λ e. Feeds es e i × (In es c e → ⊥))
      (λ e. Decides-and _ _ (decides_feeds es e i) (Decides-not (in_cut es c e) (decides_in es c e))) (length es)

  pub missing_unfed : Closed es c → Missing es c i → Unfed es c i
  missing_unfed closed k =
      let test : Bool = some (λ e. feeds es e i && not (in_cut es c e)) (length es) in
      elim (cases_Bool test) [
        | inl h ↦ let s = decides_unfed.0 h in (s.0, s.2.0, s.2.1)
        | inr h ↦
            let no' = not_from_Decides test decides_unfed h in
            absurd (k.3 (ready_from es c closed own_next
            (λ e l f.
            elim (cases_lt (c (thread_at es e)) (place_at es e)) [
              | inl q ↦ absurd (no' (e, l, (f, (λ z. omega arith))))
              | inr q ↦ q
            ])
            k.2))
      ]

  pub unfed_missing : Unfed es c i → Missing es c i
  unfed_missing f = (f.0, (feeds_noted es f.0 i f.1).0, fed f.1, f.2)

  pub may_follow_lem : (Missing es c i → ⊥) → (Blocked es c i → ⊥) → MayFollow es c i
  may_follow_lem full lone = record {
    noted = next.noted;
    next = own_next;
    ready = λ j l b.
        elim (cases_lt (c (thread_at es j)) (place_at es j)) [
          | inl q ↦ absurd (full (j, l, b, λ z. omega arith))
          | inr q ↦ q
        ];
    alone = λ g t n o. lone (g, t, n, o);
  }

-- what an event's source says of the cut
module _ (es : List Event) (sound : Sound es) (few : (i : ℕ) → i < length es → thread_at es i < 255) (c : Cut) (i t p : ℕ) where
  in_from : (e : ℕ) → t ≡ thread_at es e → p ≡ place_at es e → p ≤ c t → In es c e
  in_from e a b h = let q : c t ≡ c (thread_at es e) = ap c a in omega arith

  in_to : (e : ℕ) → t ≡ thread_at es e → p ≡ place_at es e → In es c e → p ≤ c t
  in_to e a b h = let q : c t ≡ c (thread_at es e) = ap c a in omega arith

  fed_in_from : (e : ℕ) → Feeds es e i → t ≡ thread_at es e → p ≡ place_at es e → Supplied c t p → In es c e
  fed_in_from e f a b (inl q) = absurd (omega (arith, few e (feeds_noted es e i f).0))
  fed_in_from e f a b (inr q) = in_from e a b q

  pub source_unfed : Source es i t p → (Supplied c t p → Unfed es c i → ⊥) × ((Unfed es c i → ⊥) → Supplied c t p)
  source_unfed (inr s) = ((λ h f. s.0 f.0 f.1), (λ n. inl s.1))
  source_unfed (inl s) = (
    (λ h f. f.2 (subst (In es c) (one_feeder es s.0 f.0 i s.1 f.1) (fed_in_from s.0 s.1 s.2 s.3 h))),
    (λ n.
        elim (cases_lt (c (thread_at es s.0)) (place_at es s.0)) [
          | inl q ↦ absurd (n (s.0, s.1, λ z. omega arith))
          | inr q ↦ inr (in_to s.0 s.2 s.3 q)
        ]),
  )

  pub source_begun : Source es i t p → (x : ℕ) → Reads es x i ⊎ Releases es x i → Supplied c t p → Begun es c i
  source_begun (inl s) x r h = inl (s.0, s.1, fed_in_from s.0 s.1 s.2 s.3 h)
  source_begun (inr s) x (inl r) h = elim (reads_from es x i r) [ inl b ↦ inr (x, b) | inr f ↦ absurd (s.0 f.0 f.1) ]
  source_begun (inr s) x (inr r) h = let f = release_from es sound x i r in absurd (s.0 f.0 f.1)

  pub begun_source : Source es i t p → Begun es c i → Supplied c t p
  begun_source (inr s) b = inl s.1
  begun_source (inl s) (inr b) = absurd (no_feeder es s.0 i b.0 b.1 s.1)
  begun_source (inl s) (inl b) = inr (in_to s.0 s.2 s.3 (subst (In es c) (one_feeder es b.0 s.0 i b.1 s.1) b.2))

module _ (es : List Event) (sound : Sound es) (c : Cut) where
  module _ (fair : Fair es c) (i : ℕ) (l : i < length es) (out : In es c i → ⊥) where
    -- an event that is neither a write nor an acquire is alone once all before it are in
    fed_in : (Missing es c i → ⊥) → (e : ℕ) → Feeds es e i → In es c e
    fed_in full e f =
        elim (cases_lt (c (thread_at es e)) (place_at es e)) [
          | inl q ↦ absurd (full (e, (feeds_noted es e i f).0, fed f, λ z. omega arith))
          | inr q ↦ q
        ]

    begun_plain : (Missing es c i → ⊥) → (kind_at es i ≡ 2 → ⊥) → (kind_at es i ≡ 3 → ⊥) → (o : Object) → Of es o i → Begun es c i
    begun_plain full a b (variable x) (inl r) =
        elim (reads_from es x i r) [ inl s ↦ inr (x, s) | inr f ↦ inl (f.0, f.1, fed_in full f.0 f.1) ]
    begun_plain full a b (variable x) (inr w) = absurd (a w.kind)
    begun_plain full a b (lock x) (inl w) = absurd (b w.kind)
    begun_plain full a b (lock x) (inr r) = let f = release_from es sound x i r in inl (f.0, f.1, fed_in full f.0 f.1)

    pub plain_alone : (Missing es c i → ⊥) → (kind_at es i ≡ 2 → ⊥) → (kind_at es i ≡ 3 → ⊥) → Blocked es c i → ⊥
    plain_alone full a b w = let o = touched es w.0 i w.1 in fair.only i l out (begun_plain full a b o.0 o.1) w

    led_in_lem : (e m : ℕ) → m < length es → Member es (led e) m → In es c m → In es c e
    led_in_lem e m k (inl h) a = subst (In es c) h.1 a
    led_in_lem e m k (inr h) a = fair.closed m e k a (fed h)

    record Waiter : Type 0 where
      j : ℕ
      out_j : In es c j → ⊥
      begun : Begun es c j
      same : (o : Object) → Of es o i → Of es o j

    waiter_led : (e j : ℕ) → (u : Object) → Of es u e → Of es u i → In es c e → Member es (led e) j → (In es c j → ⊥) → Waiter
    waiter_led e j u a b s (inl h) n = absurd (n (subst (In es c) (sym h.1) s))
    waiter_led e j u a b s (inr h) n = record {
      j = j;
      out_j = n;
      begun = inl (e, h, s);
      same = λ o k. of_feeds es o e j h (subst (λ v. Of es v e) (one_object es u o i b k) a);
    }

    waiter : Blocked es c i → Waiter
    waiter (led e, t, n, o) = waiter_led e o.1.0 t.0 t.1 t.2 (led_in_lem e o.0.0 o.0.1 o.0.2 o.0.3) o.1.2 o.1.3
    waiter (starting x, t, n, o) = record {
      j = o.0;
      out_j = o.3;
      begun = inr (x, o.2);
      same = λ u k. subst (λ v. Of es v o.0) (one_object es (variable x) u i t k) (inl o.2.0);
    }

    pub blocked_write : (x : ℕ) → Writes es x i → Blocked es c i → (j : ℕ) × Waiting es c 1 x j
    blocked_write x w h =
        let v = waiter h in
        (v.j, record { is = waits_read es c x v.j v.begun (v.same (variable x) (inr w)); out = v.out_j; begun = v.begun })

    pub blocked_acquire : (x : ℕ) → Acquires es x i → Blocked es c i → (j : ℕ) × Waiting es c 4 x j
    blocked_acquire x w h =
        let v = waiter h in
        (v.j, record { is = waits_release es c x v.j v.begun (v.same (lock x) (inl w)); out = v.out_j; begun = v.begun })

    not_in_led : ((x : ℕ) × (Writes es x i ⊎ Acquires es x i)) → (e : ℕ) → In es c e → Member es (led e) i → ⊥
    not_in_led w e a (inl h) = out (subst (In es c) (sym h.1) a)
    not_in_led w e a (inr h) = lead_unfed es e i w h

    fed_blocked : (o : Object) → Of es o i → ((x : ℕ) × (Writes es x i ⊎ Acquires es x i)) → (j e : ℕ) → Of es o j → (In es c j → ⊥) → Feeds es e j → In es c e → Blocked es c i
    fed_blocked o a w j e b n f s = (
      led e,
      (o, of_fed es o e j f b, a),
      not_in_led w e s,
      ((e, (feeds_noted es e j f).0, leads_self es e j f, s), (j, (feeds_noted es e j f).1, inr f, n)),
    )

    pub write_blocked : (x j : ℕ) → Writes es x i → Waiting es c 1 x j → Blocked es c i
    write_blocked x j w h =
        elim h.begun [
          | inl b ↦ fed_blocked (variable x) (inr w) (x, inl w) j b.0 (inl h.is) h.out b.1 b.2
          | inr b ↦
              let m : Member es (starting x) j = subst (λ z. Member es (starting z) j) (agree es 1 b.0 1 x j b.1.0 h.is) b.1 in
              (starting x, inr w, (λ z. clash es 1 x 2 x i (λ y. omega arith) z.0 w), (j, h.is.noted, m, h.out))
        ]

    pub acquire_blocked : (x j : ℕ) → Acquires es x i → Waiting es c 4 x j → Blocked es c i
    acquire_blocked x j w h =
        elim h.begun [
          | inl b ↦ fed_blocked (lock x) (inl w) (x, inr w) j b.0 (inr h.is) h.out b.1 b.2
          | inr b ↦ clash es 1 b.0 4 x j (λ z. omega arith) b.1.0 h.is
        ]
