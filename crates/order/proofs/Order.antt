-- The noted order is a consistent run.
use Rattle.std.proofs.Common.{◌≡◌, ℕ, ◌<◌, ◌≤◌, List, length, get_or, sym, ap, ◌∙◌, subst, inl, inr, zero-add, arith}
use Rattle.std.specs.List.{range_with_len}
use Rattle.std.proofs.lemmas.List.FromFn.{length-range_with_len, get_or-range_with_len}
use Rattle.std.proofs.lemmas.Bool.{cases_lt, cases_order}
use Rattle.events.specs.declared.event.Event.{Event}
use Rattle.order.specs.Trace.{place_at, Is, Reads, Writes, Object, Of}
use Rattle.order.specs.Trace.Object.{variable, lock}
use Rattle.order.specs.Before.{Feeds, Before}
use Rattle.order.specs.Before.Feeds.{value, hold}
use Rattle.order.specs.Before.Before.{in_thread, fed, chain}
use Rattle.order.specs.Groups.{Group, Member, Touches}
use Rattle.order.specs.Groups.Group.{led, starting}
use Rattle.order.specs.Runs.{Consistent}
use Rattle.order.specs.Sound.{Sound}
use Rattle.order.proofs.Places.{places_up}

module _ (es : List Event) (sound : Sound es) where
  pub feeds_later : (e f : ℕ) → Feeds es e f → e < f
  feeds_later e f (value x w r l n) = l
  feeds_later e f (hold x w r l n) = l

  pub before_later : {e f : ℕ} → Before es e f → e < f
  before_later (in_thread {e = e} {f = f} a b t p) =
      elim (cases_order e f) [
        | inl q ↦ absurd (omega (arith, ap (place_at es) q))
        | inr q ↦ elim q [ inl l ↦ l | inr l ↦ absurd (omega (arith, places_up es sound f e l a (sym t))) ]
      ]
  before_later (fed {e = e} {f = f} h) = feeds_later e f h
  before_later (chain p q) = omega (arith, before_later p, before_later q)

  -- an event has one kind and one subject
  pub one_kind : (k s k' s' i : ℕ) → Is es k s i → Is es k' s' i → (k ≡ k') × (s ≡ s')
  one_kind k s k' s' i a b = (sym a.kind ∙ b.kind, sym a.subject ∙ b.subject)

  led_first : (e i : ℕ) → Member es (led e) i → e ≤ i
  led_first e i (inl h) = omega (arith, h.1)
  led_first e i (inr h) = omega (arith, feeds_later e i h)

  -- between e and an event that it feeds there is, of e's variable or lock, nothing but what it feeds
  fed_between : (e k l : ℕ) (o : Object) → e < k → k < l → Feeds es e l → Of es o e → Of es o k → Feeds es e k
  fed_between e k l (variable x) a b (value y w r m n) (inl h) i = absurd (omega (arith, (one_kind 1 x 2 y e h w).0))
  fed_between e k l (variable x) a b (value y w r m n) (inr h) (inr i) =
      absurd (n k a b (subst (λ z. Writes es z k) (one_kind 2 x 2 y e h w).1 i))
  fed_between e k l (variable x) a b (value y w r m n) (inr h) (inl i) =
      value y w (subst (λ z. Reads es z k) (one_kind 2 x 2 y e h w).1 i) a (λ q c d. n q c (omega arith))
  fed_between e k l (variable x) a b (hold y w r m n) (inl h) i = absurd (omega (arith, (one_kind 1 x 3 y e h w).0))
  fed_between e k l (variable x) a b (hold y w r m n) (inr h) i = absurd (omega (arith, (one_kind 2 x 3 y e h w).0))
  fed_between e k l (lock x) a b (value y w r m n) (inl h) i = absurd (omega (arith, (one_kind 3 x 2 y e h w).0))
  fed_between e k l (lock x) a b (value y w r m n) (inr h) i = absurd (omega (arith, (one_kind 4 x 2 y e h w).0))
  fed_between e k l (lock x) a b (hold y w r m n) (inl h) i =
      absurd (n k a b (subst (λ z. Of es (lock z) k) (one_kind 3 x 3 y e h w).1 i))
  fed_between e k l (lock x) a b (hold y w r m n) (inr h) i = absurd (omega (arith, (one_kind 4 x 3 y e h w).0))

  -- an event of x ahead of a starting read is a starting read
  pub start_between : (x k l : ℕ) → k ≤ l → Member es (starting x) l → Of es (variable x) k → Member es (starting x) k
  start_between x k l a m (inl h) = (h, λ q c. m.1 q (omega arith))
  start_between x k l a m (inr h) =
      elim (cases_lt k l) [
        | inl b ↦ absurd (m.1 k b h)
        | inr b ↦
            let e : l ≡ k = omega arith in
            absurd (omega (arith, (one_kind 1 x 2 x k (subst (Reads es x) e m.0) h).0))
      ]

  pub together : (g : Group) (j k l : ℕ) → j < k → k < l → Member es g j → Member es g l → Touches es g k → Member es g k
  together (led e) j k l a b m (inl h) t = absurd (omega (arith, led_first e j m, h.1))
  together (led e) j k l a b m (inr h) t =
      let f = led_first e j m in
      inr (fed_between e k l t.0 (omega arith) b h t.1 t.2)
  together (starting x) j k l a b m n t = start_between x k l (omega arith) n t

  at : (k : ℕ) → k < length (range_with_len 0 (length es)) → get_or (range_with_len 0 (length es)) k 0 ≡ k
  at k h = get_or-range_with_len 0 (length es) k 0 (omega (arith, length-range_with_len 0 (length es))) ∙ zero-add k

  pub noted : Consistent es (range_with_len 0 (length es))
  noted =
      let r : List ℕ = range_with_len 0 (length es) in
      let n = length-range_with_len 0 (length es) in
      record {
        ordering = record {
          noted = λ k h. omega (arith, at k h);
          each = λ i h. let l : i < length r = omega arith in (i, l, at i l);
          once = λ j k a b e. sym (at j a) ∙ e ∙ at k b;
        };
        in_order = λ j k a b h.
            omega (arith, at j a, at k b, before_later h);
        together = λ g j k l a b c m o t z.
            let f : k < length r = omega arith in
            let d : j < length r = omega arith in
            z (subst (Member es g) (sym (at k f))
            (together g j k l a b (subst (Member es g) (at j d) m) (subst (Member es g) (at l c) o) (subst (Touches es g) (at k f) t)));
        starts = λ x j k a b m t z.
            elim (cases_lt j k) [
              | inl l ↦ l
              | inr l ↦
                  absurd (z (subst (Member es (starting x)) (sym (at k b))
                  (start_between x k j l (subst (Member es (starting x)) (at j a) m) (subst (Of es (variable x)) (at k b) t))))
            ];
      }
