-- In a cut that a path reaches, the group of an event that waits is the only open one of its variable or lock.
use Rattle.std.proofs.Common.{◌≡◌, ℕ, ◌<◌, ◌⊎◌, List, length, sym, refl, ◌∙◌, subst, inl, inr, arith}
use Rattle.events.specs.declared.event.Event.{Event}
use Rattle.order.specs.Trace.{thread_at, Reads, Writes, Acquires, Releases, Object, Of}
use Rattle.order.specs.Trace.Object.{variable, lock}
use Rattle.order.specs.Before.{Feeds}
use Rattle.order.specs.Before.Feeds.{value, hold}
use Rattle.order.specs.Groups.{Group, Member, Touches}
use Rattle.order.specs.Groups.Group.{led, starting}
use Rattle.order.specs.Cuts.{Cut, empty_cut, advance, In, Lacks, Open, MayFollow, Reach}
use Rattle.order.specs.Cuts.Reach.{start, onward}
use Rattle.order.specs.Sound.{Sound}
use Rattle.order.specs.Waiting.{Blocked, Begun}
use Rattle.order.proofs.Cuts.{in_advance, in_advance_cases}
use Rattle.order.proofs.Closed.{Closed, closed_more}
use Rattle.order.proofs.Decided.{feeds_noted}
use Rattle.order.proofs.Feeders.{clash, agree, one_feeder, feeds_leads, no_feeder}

module _ (es : List Event) where
  -- what is fed is of the same variable or lock
  pub of_fed : (o : Object) (e i : ℕ) → Feeds es e i → Of es o i → Of es o e
  of_fed (variable y) e i (value x w r l n) (inl h) = inr (subst (λ z. Writes es z e) (agree es 1 x 1 y i r h) w)
  of_fed (variable y) e i (value x w r l n) (inr h) = clash es 1 x 2 y i (λ z. omega arith) r h
  of_fed (variable y) e i (hold x w r l n) (inl h) = clash es 1 y 4 x i (λ z. omega arith) h r
  of_fed (variable y) e i (hold x w r l n) (inr h) = clash es 2 y 4 x i (λ z. omega arith) h r
  of_fed (lock y) e i (value x w r l n) (inl h) = clash es 1 x 3 y i (λ z. omega arith) r h
  of_fed (lock y) e i (value x w r l n) (inr h) = clash es 1 x 4 y i (λ z. omega arith) r h
  of_fed (lock y) e i (hold x w r l n) (inl h) = clash es 3 y 4 x i (λ z. omega arith) h r
  of_fed (lock y) e i (hold x w r l n) (inr h) = inl (subst (λ z. Acquires es z e) (agree es 4 x 4 y i r h) w)

  pub of_feeds : (o : Object) (e i : ℕ) → Feeds es e i → Of es o e → Of es o i
  of_feeds (variable y) e i (value x w r l n) (inl h) = clash es 1 y 2 x e (λ z. omega arith) h w
  of_feeds (variable y) e i (value x w r l n) (inr h) = inl (subst (λ z. Reads es z i) (agree es 2 x 2 y e w h) r)
  of_feeds (variable y) e i (hold x w r l n) (inl h) = clash es 1 y 3 x e (λ z. omega arith) h w
  of_feeds (variable y) e i (hold x w r l n) (inr h) = clash es 2 y 3 x e (λ z. omega arith) h w
  of_feeds (lock y) e i (value x w r l n) (inl h) = clash es 2 x 3 y e (λ z. omega arith) w h
  of_feeds (lock y) e i (value x w r l n) (inr h) = clash es 2 x 4 y e (λ z. omega arith) w h
  of_feeds (lock y) e i (hold x w r l n) (inl h) = inr (subst (λ z. Releases es z i) (agree es 3 x 3 y e w h) r)
  of_feeds (lock y) e i (hold x w r l n) (inr h) = clash es 3 x 4 y e (λ z. omega arith) w h

  -- an event that reads x is of no other variable and no lock
  of_read : (o : Object) (x i k : ℕ) → Reads es x i → Of es o i → Of es o k → Of es (variable x) k
  of_read (variable y) x i k r (inl h) u = subst (λ z. Of es (variable z) k) (agree es 1 y 1 x i h r) u
  of_read (variable y) x i k r (inr h) u = clash es 1 x 2 y i (λ z. omega arith) r h
  of_read (lock y) x i k r (inl h) u = clash es 1 x 3 y i (λ z. omega arith) r h
  of_read (lock y) x i k r (inr h) u = clash es 1 x 4 y i (λ z. omega arith) r h

  touches_fed : (g : Group) (e i : ℕ) → Feeds es e i → Touches es g i → Touches es g e
  touches_fed (led d) e i f t = (t.0, t.1, of_fed t.0 e i f t.2)
  touches_fed (starting x) e i f t = of_fed (variable x) e i f t

  pub of_member : (o : Object) (e k : ℕ) → Member es (led e) k → Of es o e → Of es o k
  of_member o e k (inl h) u = subst (Of es o) (sym h.1) u
  of_member o e k (inr h) u = of_feeds o e k h u

  -- a leader is not fed
  pub lead_unfed : {A : Type 0} (e k : ℕ) → ((x : ℕ) × (Writes es x k ⊎ Acquires es x k)) → Feeds es e k → A
  lead_unfed e k (x, inl w) (value y a r l n) = clash es 1 y 2 x k (λ z. omega arith) r w
  lead_unfed e k (x, inl w) (hold y a r l n) = clash es 2 x 4 y k (λ z. omega arith) w r
  lead_unfed e k (x, inr w) (value y a r l n) = clash es 1 y 3 x k (λ z. omega arith) r w
  lead_unfed e k (x, inr w) (hold y a r l n) = clash es 3 x 4 y k (λ z. omega arith) w r

  one_leader : (d e k : ℕ) → Member es (led d) k → Member es (led e) k → d ≡ e
  one_leader d e k (inl a) (inl b) = sym a.1 ∙ b.1
  one_leader d e k (inl a) (inr b) = lead_unfed e k (subst (λ z. (x : ℕ) × (Writes es x z ⊎ Acquires es x z)) (sym a.1) a.0) b
  one_leader d e k (inr a) (inl b) = lead_unfed d k (subst (λ z. (x : ℕ) × (Writes es x z ⊎ Acquires es x z)) (sym b.1) b.0) a
  one_leader d e k (inr a) (inr b) = one_feeder es d e k a b

  pub leads_self : (e i : ℕ) → Feeds es e i → Member es (led e) e
  leads_self e i f = inl (feeds_leads es e i f, refl)

  -- a starting read is in no led group
  start_led : {A : Type 0} (x e k : ℕ) → Member es (starting x) k → Member es (led e) k → A
  start_led x e k s (inr f) = absurd (no_feeder es e k x s f)
  start_led x e k s (inl ((y, inl w), q)) = clash es 1 x 2 y k (λ z. omega arith) s.0 (subst (Writes es y) (sym q) w)
  start_led x e k s (inl ((y, inr w), q)) = clash es 1 x 3 y k (λ z. omega arith) s.0 (subst (Acquires es y) (sym q) w)

pub record Fair (es : List Event) (c : Cut) : Type 0 where
  pub closed : Closed es c
  pub only : (i : ℕ) → i < length es → (In es c i → ⊥) → Begun es c i → Blocked es c i → ⊥

module _ (es : List Event) (sound : Sound es) where
  not_none : (i : ℕ) → i < length es → In es empty_cut i → ⊥
  not_none i l h = omega (arith, sound.places i l)

  none_only : (i : ℕ) → i < length es → Begun es empty_cut i → (g : Group) → Touches es g i → (Member es g i → ⊥) → Open es empty_cut g → ⊥
  none_only i l b (led e) t n o = not_none o.0.0 o.0.1 o.0.3
  none_only i l (inl b) (starting x) t n o = not_none b.0 (feeds_noted es b.0 i b.1).0 b.2
  none_only i l (inr b) (starting x) (inl h) n o = n (subst (λ z. Member es (starting z) i) (agree es 1 b.0 1 x i b.1.0 h) b.1)
  none_only i l (inr b) (starting x) (inr h) n o = clash es 1 b.0 2 x i (λ z. omega arith) b.1.0 h

  fair_none : Fair es empty_cut
  fair_none = record {
    closed = λ i j l h b. absurd (not_none i l h);
    only = λ i l o b w. none_only i l b w.0 w.1 w.2 w.3;
  }

  module _ (c : Cut) (k : ℕ) (fair : Fair es c) (m : MayFollow es c k) where
    abbrev d : Cut
    d = advance (thread_at es k) c

    lacks_back : (g : Group) → Lacks es d g → Lacks es c g
    lacks_back g l = (l.0, l.1, l.2, λ h. l.3 (in_advance es c (thread_at es k) l.0 h))

    -- a group that the new event is not in was open already
    open_back : (g : Group) → (Member es g k → ⊥) → Open es d g → Open es c g
    open_back (starting x) n o = lacks_back (starting x) o
    open_back (led e) n o =
        elim (in_advance_cases es sound c k o.0.0 m.noted o.0.1 m.next o.0.3) [
          | inl h ↦ ((o.0.0, o.0.1, o.0.2, h), lacks_back (led e) o.1)
          | inr q ↦ absurd (n (subst (Member es (led e)) q o.0.2))
        ]

    -- the new event is a member of g, and i's own group had begun
    new_in_fed : (i e : ℕ) → i < length es → (In es c i → ⊥) → Feeds es e i → In es c e
        → (f : ℕ) → Touches es (led f) i → (Member es (led f) i → ⊥) → Member es (led f) k → ⊥
    new_in_fed i e l out h a f t n p =
        m.alone (led e)
        (t.0, of_fed es t.0 e i h t.2, of_member es t.0 f k p t.1)
        (λ q. n (subst (λ z. Member es (led z) i) (one_leader es e f k q p) (inr h)))
        ((e, (feeds_noted es e i h).0, leads_self es e i h, a), (i, l, inr h, out))

    new_in_start : (i x : ℕ) → i < length es → (In es c i → ⊥) → Member es (starting x) i
        → (f : ℕ) → Touches es (led f) i → Member es (led f) k → ⊥
    new_in_start i x l out s f t p =
        m.alone (starting x) (of_read es t.0 x i k s.0 t.2 (of_member es t.0 f k p t.1)) (λ q. start_led es x f k q p) (i, l, s, out)

    -- i's own group had begun
    old_only : (i : ℕ) → i < length es → (In es c i → ⊥) → Begun es c i → (g : Group) → Touches es g i → (Member es g i → ⊥) → Open es d g → ⊥
    old_only i l out b (starting x) t n o = fair.only i l out b (starting x, t, n, lacks_back (starting x) o)
    old_only i l out b (led f) t n o =
        elim (in_advance_cases es sound c k o.0.0 m.noted o.0.1 m.next o.0.3) [
          | inl h ↦ fair.only i l out b (led f, t, n, ((o.0.0, o.0.1, o.0.2, h), lacks_back (led f) o.1))
          | inr q ↦
              let p : Member es (led f) k = subst (Member es (led f)) q o.0.2 in
              elim b [
                | inl s ↦ new_in_fed i s.0 l out s.1 s.2 f t n p
                | inr s ↦ new_in_start i s.0 l out s.1 f t p
              ]
        ]

    -- the new event leads i's group
    lead_apart : (i : ℕ) → Feeds es k i → (g : Group) → (Member es g i → ⊥) → Member es g k → ⊥
    lead_apart i h (led f) n p = n (subst (λ z. Member es (led z) i) (one_leader es k f k (leads_self es k i h) p) (inr h))
    lead_apart i h (starting x) n p = start_led es x k k p (leads_self es k i h)

    lead_only : (i : ℕ) → Feeds es k i → (g : Group) → Touches es g i → (Member es g i → ⊥) → Open es d g → ⊥
    lead_only i h g t n o =
        let apart = lead_apart i h g n in
        m.alone g (touches_fed es g k i h t) apart (open_back g apart o)

    more_only : (i : ℕ) → i < length es → (In es d i → ⊥) → Begun es d i → Blocked es d i → ⊥
    more_only i l out (inr b) w = old_only i l (λ h. out (in_advance es c (thread_at es k) i h)) (inr b) w.0 w.1 w.2 w.3
    more_only i l out (inl b) w =
        elim (in_advance_cases es sound c k b.0 m.noted (feeds_noted es b.0 i b.1).0 m.next b.2) [
          | inl h ↦ old_only i l (λ h'. out (in_advance es c (thread_at es k) i h')) (inl (b.0, b.1, h)) w.0 w.1 w.2 w.3
          | inr q ↦ lead_only i (subst (λ z. Feeds es z i) q b.1) w.0 w.1 w.2 w.3
        ]

    fair_more : Fair es d
    fair_more = record { closed = closed_more es sound c k fair.closed m; only = more_only }

  pub fair : {r : List ℕ} {c : Cut} → Reach es r c → Fair es c
  fair start = fair_none
  fair (onward {c = c} i h m) = fair_more c i (fair h) m
