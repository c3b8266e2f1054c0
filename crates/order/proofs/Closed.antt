-- Cuts that have what is before their events.
use Rattle.std.proofs.Common.{◌≡◌, ℕ, ◌<◌, List, length, ap, subst, inl, inr, arith}
use Rattle.events.specs.declared.event.Event.{Event}
use Rattle.order.specs.Trace.{thread_at}
use Rattle.order.specs.Before.{Feeds, Before}
use Rattle.order.specs.Before.Before.{in_thread, fed, chain}
use Rattle.order.specs.Cuts.{Cut, advance, In, MayFollow}
use Rattle.order.specs.Sound.{Sound}
use Rattle.order.proofs.Decided.{feeds_noted, before_noted}
use Rattle.order.proofs.Cuts.{Next, in_advance, in_advance_cases}

module _ (es : List Event) where
  -- what is before an event of the cut is in the cut
  abbrev pub Closed : Cut → Type 0
  Closed c = (i j : ℕ) → i < length es → In es c i → Before es j i → In es c j

  -- where the cut is closed, it is enough to look at what feeds the event itself
  pub ready_from : (c : Cut) → Closed c → {j i : ℕ} → Next es c i → ((e : ℕ) → e < length es → Feeds es e i → In es c e) → Before es j i → In es c j
  ready_from c closed n h (in_thread {e = e} {f = f} a b t p) =
      let q : c (thread_at es e) ≡ c (thread_at es f) = ap c t in omega arith
  ready_from c closed n h (fed {e = e} {f = f} k) = h e (feeds_noted es e f k).0 k
  ready_from c closed n h (chain {e = e} {f = f} p q) = closed f e (before_noted es p).1 (ready_from c closed n h q) p

  pub closed_more : Sound es → (c : Cut) (i : ℕ) → Closed c → MayFollow es c i → Closed (advance (thread_at es i) c)
  closed_more sound c i closed m k j l h b =
      in_advance es c (thread_at es i) j
      (elim (in_advance_cases es sound c i k m.noted l m.next h) [
        | inl q ↦ closed k j l q b
        | inr q ↦ m.ready j (before_noted es b).0 (subst (Before es j) q b)
      ])
