-- The balance of a variable or a lock in a cut that a path reaches.
use Rattle.std.proofs.Common.{◌≡◌, ℕ, ◌+◌, ◌<◌, ◌≤◌, ◌⊎◌, List, length, sym, refl, ap, ◌∙◌, subst, inl, inr, arith}
use Rattle.events.specs.declared.event.Event.{Event}
use Rattle.order.specs.Trace.{thread_at, place_at, Is}
use Rattle.order.specs.Before.{Feeds}
use Rattle.order.specs.Before.Before.{fed}
use Rattle.order.specs.Groups.{Member}
use Rattle.order.specs.Groups.Group.{starting}
use Rattle.order.specs.Cuts.{Cut, In}
use Rattle.order.specs.Sound.{Sound}
use Rattle.order.specs.Clocks.{Number}
use Rattle.order.specs.Waiting.{Begun, Waiting, Waits}
use Rattle.order.proofs.Decided.{feeds_noted}
use Rattle.order.proofs.Feeders.{reads_from, release_from, one_feeder, no_feeder}
use Rattle.std.proofs.lemmas.Bool.{cases_lt}
use Rattle.follow.specs.Balance.{LedBy, TakenBy, Starts, Led, Taken, Starting, over_threads, Follower, ThreadsBelow, BalanceLaw}
use Rattle.order.proofs.Closed.{Closed}
use Rattle.order.proofs.Fair.{fair}
use Rattle.follow.proofs.Counting.{Inside, number_like, number_once, number_sum, number_threads, number_inside}

module _ (es : List Event) (sound : Sound es) (few : ThreadsBelow es 8) (c : Cut) (closed : Closed es c) (k s : ℕ) (follower : Follower k) where
  abbrev AllBegun : ℕ → Type 0
  AllBegun j = Is es k s j × Begun es c j

  abbrev AllIn : ℕ → Type 0
  AllIn j = Is es k s j × In es c j

  -- a follower that nothing feeds is a starting read
  starts : Follower k → (j : ℕ) → Is es k s j → ((e : ℕ) → Feeds es e j → ⊥) → Member es (starting s) j
  starts (inl q) j h n =
      elim (reads_from es s j (subst (λ z. Is es z s j) q h)) [ inl b ↦ b | inr f ↦ absurd (n f.0 f.1) ]
  starts (inr q) j h n = let f = release_from es sound s j (subst (λ z. Is es z s j) q h) in absurd (n f.0 f.1)

  begins : Follower k → (j : ℕ) → Is es k s j → In es c j → Begun es c j
  begins (inl q) j h i =
      elim (reads_from es s j (subst (λ z. Is es z s j) q h)) [
        | inl b ↦ inr (s, b)
        | inr f ↦ inl (f.0, f.1, closed j f.0 h.noted i (fed f.1))
      ]
  begins (inr q) j h i =
      let f = release_from es sound s j (subst (λ z. Is es z s j) q h) in
      inl (f.0, f.1, closed j f.0 h.noted i (fed f.1))

  in_up_to : (t e : ℕ) → thread_at es e ≡ t → place_at es e ≤ c t → In es c e
  in_up_to t e q h = let z : c (thread_at es e) ≡ c t = ap c q in omega arith

  begun_led : (j : ℕ) → Starts es k s j ⊎ ((t : ℕ) × (t < 8) × LedBy es k s t (c t) j) → AllBegun j
  begun_led j (inl u) = (u.0, inr (s, starts follower j u.0 u.1))
  begun_led j (inr u) = (u.2.0, inl (u.2.1.0, u.2.1.1, in_up_to u.0 u.2.1.0 u.2.1.2 u.2.1.3))

  led_begun : (j : ℕ) → Is es k s j → Begun es c j → Starts es k s j ⊎ ((t : ℕ) × (t < 8) × LedBy es k s t (c t) j)
  led_begun j h (inl b) = inr (thread_at es b.0, few b.0 (feeds_noted es b.0 j b.1).0, (h, (b.0, b.1, refl, b.2)))
  led_begun j h (inr b) = inl (h, λ e. no_feeder es e j b.0 b.1)

  one_led : (t u j : ℕ) → LedBy es k s t (c t) j → LedBy es k s u (c u) j → t ≡ u
  one_led t u j a b = sym a.1.2 ∙ ap (thread_at es) (one_feeder es a.1.0 b.1.0 j a.1.1 b.1.1) ∙ b.1.2

  module _ (started : ℕ) (ns : Starting es k s started) (led taken : ℕ → ℕ)
      (nl : (t : ℕ) → t < 8 → Led es k s t (c t) (led t)) (nt : (t : ℕ) → t < 8 → Taken es k s t (c t) (taken t)) where
    all_begun : Number AllBegun (length es) (started + over_threads led 8)
    all_begun =
        number_like (λ j. Starts es k s j ⊎ ((t : ℕ) × (t < 8) × LedBy es k s t (c t) j)) AllBegun
        (number_sum (Starts es k s) (λ j. (t : ℕ) × (t < 8) × LedBy es k s t (c t) j) ns
        (number_threads (λ t. LedBy es k s t (c t)) one_led 8 (length es) led nl)
        (λ j l a b. a.1 b.2.1.0 b.2.1.1))
        (λ j l. begun_led j) (λ j l a. led_begun j a.0 a.1)

    all_in : Number AllIn (length es) (over_threads taken 8)
    all_in =
        number_like (λ j. (t : ℕ) × (t < 8) × TakenBy es k s t (c t) j) AllIn
        (number_threads (λ t. TakenBy es k s t (c t)) (λ t u j a b. sym a.1 ∙ b.1) 8 (length es) taken nt)
        (λ j l a. (a.2.0, in_up_to a.0 j a.2.1 a.2.2))
        (λ j l a. (thread_at es j, few j l, (a.0, refl, a.1)))

    pub balanced : (waiting : ℕ) → Waits es c k s waiting → started + over_threads led 8 ≡ over_threads taken 8 + waiting
    balanced w left =
        number_once AllBegun all_begun
        (number_like (λ j. AllIn j ⊎ Waiting es c k s j) AllBegun
        (number_sum AllIn (Waiting es c k s) all_in left (λ j l a b. b.out a.1))
        (λ j l a. elim a [ inl x ↦ (x.0, begins follower j x.0 x.1) | inr x ↦ (x.is, x.begun) ])
        (λ j l a.
        elim (cases_lt (c (thread_at es j)) (place_at es j)) [
          | inl b ↦ inr (record { is = a.0; out = λ h. omega arith; begun = a.1 })
          | inr b ↦ inl (a.0, b)
        ]))

    -- nothing waits where the sums agree, and something where they differ
    inside : Inside AllIn AllBegun (length es) (over_threads taken 8) (started + over_threads led 8)
    inside = number_inside AllIn AllBegun all_in all_begun (λ j l a. (a.0, begins follower j a.0 a.1))

    pub none_waits : started + over_threads led 8 ≡ over_threads taken 8 → (j : ℕ) → Waiting es c k s j → ⊥
    none_waits e j w = w.out (inside.same (sym e) j w.is.noted (w.is, w.begun)).1

    pub one_waits : (started + over_threads led 8 ≡ over_threads taken 8 → ⊥) → (j : ℕ) × Waiting es c k s j
    one_waits n =
        let near : over_threads taken 8 < started + over_threads led 8
        = elim (cases_lt (over_threads taken 8) (started + over_threads led 8)) [ inl b ↦ b | inr b ↦ absurd (n (omega (arith, inside.fewer))) ] in
        let m = inside.more near in
        (m.0, record { is = m.2.0; out = λ h. m.3 (m.2.0, h); begun = m.2.1 })

pub balance : BalanceLaw
balance es sound few c reached k s follower started ns led taken nl nt waiting left =
    balanced es sound few c (fair es sound reached.1).closed k s follower started ns led taken nl nt waiting left
