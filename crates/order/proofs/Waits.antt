-- How the number of the events that wait goes on along a path.
use Rattle.std.proofs.Common.{◌≡◌, ℕ, suc, ◌<◌, ◌≤◌, ◌⊎◌, List, sym, refl, ap, subst, inl, inr, arith}
use Rattle.std.proofs.lemmas.Bool.{cases_lt, cases_eq}
use Rattle.events.specs.declared.event.Event.{Event}
use Rattle.order.specs.Trace.{thread_at, Is}
use Rattle.order.specs.Before.{Feeds}
use Rattle.order.specs.Before.Before.{fed}
use Rattle.order.specs.Cuts.{Cut, advance, In, MayFollow, Reach}
use Rattle.order.specs.Clocks.{Number}
use Rattle.order.specs.Clocks.Number.{none, one_more, no_more}
use Rattle.order.specs.Sound.{Sound}
use Rattle.order.specs.Waiting.{Begun, Waiting, Waits, Moves}
use Rattle.order.proofs.Order.{feeds_later}
use Rattle.order.proofs.Decided.{feeds_noted}
use Rattle.order.proofs.Cuts.{in_advance, in_advance_cases, advance_own}
use Rattle.order.proofs.Fair.{fair}
use Rattle.order.proofs.Feeders.{reads_from, release_from, feeds_leads}
use Rattle.order.proofs.Following.{begun_unled}

module _ (es : List Event) (sound : Sound es) (r : List ℕ) (c : Cut) (reach : Reach es r c) (k : ℕ) (m : MayFollow es c k) (q s j : ℕ) where
  abbrev d : Cut
  d = advance (thread_at es k) c

  k_in : In es d k
  k_in = omega (arith, m.next, advance_own (thread_at es k) c (thread_at es k) refl)

  up : (i : ℕ) → In es c i → In es d i
  up i h = in_advance es c (thread_at es k) i h

  to_begun : Is es q s j → (In es d j → ⊥) → Begun es d j → (Waiting es c q s j × (j ≡ k → ⊥)) ⊎ (Feeds es k j × Is es q s j)
  to_begun is out (inr b) = inl (record { is = is; out = λ h. out (up j h); begun = inr b }, λ e. out (subst (In es d) (sym e) k_in))
  to_begun is out (inl b) =
      elim (in_advance_cases es sound c k b.0 m.noted (feeds_noted es b.0 j b.1).0 m.next b.2) [
        | inl h ↦ inl (record { is = is; out = λ z. out (up j z); begun = inl (b.0, b.1, h) }, λ e. out (subst (In es d) (sym e) k_in))
        | inr e ↦ inr (subst (λ z. Feeds es z j) e b.1, is)
      ]

  on_begun : Begun es c j → Begun es d j
  on_begun (inl b) = inl (b.0, b.1, up b.0 b.2)
  on_begun (inr b) = inr b

  from_begun : (Waiting es c q s j × (j ≡ k → ⊥)) ⊎ (Feeds es k j × Is es q s j) → Waiting es d q s j
  from_begun (inl w) = record {
    is = w.0.is;
    out = λ h. elim (in_advance_cases es sound c k j m.noted w.0.is.noted m.next h) [ inl a ↦ w.0.out a | inr a ↦ w.1 a ];
    begun = on_begun w.0.begun;
  }
  from_begun (inr w) = record {
    is = w.1;
    out = λ h.
        elim (in_advance_cases es sound c k j m.noted w.1.noted m.next h) [
          | inl a ↦ omega (arith, m.next, (fair es sound reach).closed j k w.1.noted a (fed w.0))
          | inr a ↦ omega (arith, feeds_later es sound k j w.0)
        ];
    begun = inl (k, w.0, k_in);
  }

  moves : (Waiting es d q s j → (Waiting es c q s j × (j ≡ k → ⊥)) ⊎ (Feeds es k j × Is es q s j))
      × ((Waiting es c q s j × (j ≡ k → ⊥)) ⊎ (Feeds es k j × Is es q s j) → Waiting es d q s j)
  moves = ((λ w. to_begun w.is w.out w.begun), from_begun)

-- what waits after event k is what waited, but for k, and what k feeds
waiting_moves : (es : List Event) → Sound es → (r : List ℕ) (c : Cut) → Reach es r c → (k : ℕ) → MayFollow es c k → (q s j : ℕ)
    → (Waiting es (advance (thread_at es k) c) q s j → (Waiting es c q s j × (j ≡ k → ⊥)) ⊎ (Feeds es k j × Is es q s j))
    × ((Waiting es c q s j × (j ≡ k → ⊥)) ⊎ (Feeds es k j × Is es q s j) → Waiting es (advance (thread_at es k) c) q s j)
waiting_moves es sound r c reach k m q s j = moves es sound r c reach k m q s j

number_like : (P Q : ℕ → Type 0) {n v : ℕ} → Number P n v → ((j : ℕ) → j < n → P j → Q j) → ((j : ℕ) → j < n → Q j → P j) → Number Q n v
number_like P Q none f g = none
number_like P Q (one_more {n = n} r p) f g = one_more (number_like P Q r (λ j l. f j (omega arith)) (λ j l. g j (omega arith))) (f n (omega arith) p)
number_like P Q (no_more {n = n} r p) f g = no_more (number_like P Q r (λ j l. f j (omega arith)) (λ j l. g j (omega arith))) (λ h. p (g n (omega arith) h))

number_zero : (P : ℕ → Type 0) {n v : ℕ} → Number P n v → v ≡ 0 → (j : ℕ) → j < n → P j → ⊥
number_zero P none e j l h = omega arith
number_zero P (one_more r p) e j l h = omega arith
number_zero P (no_more {n = n} r p) e j l h =
    elim (cases_lt j n) [ inl b ↦ number_zero P r e j b h | inr b ↦ let z : j ≡ n = omega arith in p (subst P z h) ]

module _ (P Q : ℕ → Type 0) (k : ℕ) (here : P k) (gone : Q k → ⊥) where
  record Shrunk (n v : ℕ) : Type 0 where
    below : k < n → (w : ℕ) × (v ≡ suc w) × Number Q n w
    above : n ≤ k → Number Q n v

  shrunk : {n v : ℕ} → Number P n v → ((j : ℕ) → j < n → (j ≡ k → ⊥) → P j → Q j) → ((j : ℕ) → j < n → Q j → P j) → Shrunk n v
  shrunk none f g = record { below = λ l. absurd (omega arith); above = λ l. none }
  shrunk (one_more {n = n} {c = c} r p) f g =
      let ih = shrunk r (λ j l. f j (omega arith)) (λ j l. g j (omega arith)) in
      elim (cases_eq n k) [
        | inl e ↦ record { below = λ l. (c, refl, no_more (ih.above (omega arith)) (λ h. gone (subst Q e h))); above = λ l. absurd (omega arith) }
        | inr e ↦ record {
          below = λ l.
              let near : k < n = elim (cases_lt k n) [ inl b ↦ b | inr b ↦ let z : n ≡ k = omega arith in absurd (e z) ] in
              let s = ih.below near in
              (suc s.0, ap suc s.1, one_more s.2 (f n (omega arith) e p));
          above = λ l. one_more (ih.above (omega arith)) (f n (omega arith) e p);
        }
      ]
  shrunk (no_more {n = n} {c = c} r p) f g =
      let ih = shrunk r (λ j l. f j (omega arith)) (λ j l. g j (omega arith)) in
      let apart : n ≡ k → ⊥ = λ e. p (subst P (sym e) here) in
      record {
        below = λ l.
            let near : k < n = elim (cases_lt k n) [ inl b ↦ b | inr b ↦ let z : n ≡ k = omega arith in absurd (apart z) ] in
            let s = ih.below near in
            (s.0, s.1, no_more s.2 (λ h. p (g n (omega arith) h)));
        above = λ l. no_more (ih.above (omega arith)) (λ h. p (g n (omega arith) h));
      }

module _ (es : List Event) (sound : Sound es) (r : List ℕ) (c : Cut) (reach : Reach es r c) (k : ℕ) (m : MayFollow es c k) (q s v : ℕ) where
  abbrev after : Cut
  after = advance (thread_at es k) c

  abbrev to : (j : ℕ) → Waiting es after q s j → (Waiting es c q s j × (j ≡ k → ⊥)) ⊎ (Feeds es k j × Is es q s j)
  to j = (waiting_moves es sound r c reach k m q s j).0

  abbrev from : (j : ℕ) → (Waiting es c q s j × (j ≡ k → ⊥)) ⊎ (Feeds es k j × Is es q s j) → Waiting es after q s j
  from j = (waiting_moves es sound r c reach k m q s j).1

  begun_here : (q ≡ 1) ⊎ (q ≡ 4) → Is es q s k → Begun es c k
  begun_here (inl e) h =
      elim (reads_from es s k (subst (λ z. Is es z s k) e h)) [
        | inl b ↦ inr (s, b)
        | inr f ↦ inl (f.0, f.1, m.ready f.0 (feeds_noted es f.0 k f.1).0 (fed f.1))
      ]
  begun_here (inr e) h =
      let f = release_from es sound s k (subst (λ z. Is es z s k) e h) in
      inl (f.0, f.1, m.ready f.0 (feeds_noted es f.0 k f.1).0 (fed f.1))

  module _ (z : (q ≡ 1) ⊎ (q ≡ 4)) (n : Waits es c q s v) where
    less : Is es q s k → (w : ℕ) × (v ≡ suc w) × Waits es after q s w
    less h =
        let b = begun_here z h in
        let waits : Waiting es c q s k = record { is = h; out = λ a. omega (arith, m.next); begun = b } in
        let back : (j : ℕ) → Waiting es after q s j → Waiting es c q s j × (j ≡ k → ⊥)
        = λ j w. elim (to j w) [ inl a ↦ a | inr a ↦ begun_unled es c k b (feeds_leads es k j a.0) ] in
        (shrunk (Waiting es c q s) (Waiting es after q s) k waits (λ w. (back k w).1 refl) n
        (λ j l e w. from j (inl (w, e))) (λ j l w. (back j w).0)
        ).below m.noted

    count_moves : Moves es c k q s v
    count_moves = record {
      one_less = less;
      anew = λ h e w x.
          number_like (Feeds es k) (Waiting es after q s) x (λ j l f. from j (inr (f, h j f)))
          (λ j l a. elim (to j a) [ inl b ↦ absurd (number_zero (Waiting es c q s) n e j l b.0) | inr b ↦ b.0 ]);
      same = λ a b.
          number_like (Waiting es c q s) (Waiting es after q s) n
          (λ j l w. from j (inl (w, λ e. a (subst (Is es q s) e w.is))))
          (λ j l w. elim (to j w) [ inl x ↦ x.0 | inr x ↦ absurd (b j x.0 x.1) ]);
    }

pub waits_moves : (es : List Event) → Sound es → (r : List ℕ) (c : Cut) → Reach es r c → (k : ℕ) → MayFollow es c k
    → (q s v : ℕ) → (q ≡ 1) ⊎ (q ≡ 4) → Waits es c q s v → Moves es c k q s v
waits_moves es sound r c reach k m q s v z n = count_moves es sound r c reach k m q s v z n
