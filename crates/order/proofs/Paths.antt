-- The consistent runs of a sound list are the paths of cuts.
use Rattle.std.proofs.Common.{◌≡◌, ℕ, zero, suc, ◌<◌, ◌≤◌, List, length, get_or, sym, ap, subst, inl, inr, arith}
use Rattle.std.proofs.lemmas.Bool.{cases_lt, cases_order}
use Rattle.events.specs.declared.event.Event.{Event}
use Rattle.order.specs.Trace.{thread_at, place_at}
use Rattle.order.specs.Before.{Before}
use Rattle.order.specs.Before.Before.{in_thread}
use Rattle.order.specs.Groups.{Group, Member, Touches}
use Rattle.order.specs.Groups.Group.{led, starting}
use Rattle.order.specs.Runs.{Consistent, RunOf}
use Rattle.order.specs.Cuts.{Cut, empty_cut, In, Has, Lacks, Open, Accepted}
use Rattle.order.specs.Sound.{Sound}
use Rattle.order.proofs.Places.{place_met}
use Rattle.order.proofs.Cuts.{after, Steps, roll, unroll, Next, Nexts, stood, stays}

opened : (es : List Event) (c : Cut) (g : Group) → Has es c g → Lacks es c g → Open es c g
opened es c (led e) h l = (h, l)
opened es c (starting x) h l = l

-- a path is a consistent run
module _ (es : List Event) (sound : Sound es) (r : List ℕ) (steps : Steps es empty_cut r) where
  noted : (k : ℕ) → k < length r → get_or r k 0 < length es
  noted k h = (steps.follows k h).noted

  nexts : (k : ℕ) → k ≤ length r → Nexts es r k
  nexts k h p l = (steps.follows p (omega arith)).next

  kept : (j k : ℕ) → j < k → k ≤ length r → In es (after es empty_cut r k) (get_or r j 0)
  kept j k l m = stays es sound r noted j k l m (steps.follows j (omega arith)).next

  not_yet : (k : ℕ) → k < length r → In es (after es empty_cut r k) (get_or r k 0) → ⊥
  not_yet k h i = omega (arith, (steps.follows k h).next)

  apart : (j k : ℕ) → j < k → k < length r → get_or r j 0 ≡ get_or r k 0 → ⊥
  apart j k l m e = not_yet k m (subst (In es (after es empty_cut r k)) e (kept j k l (omega arith)))

  ahead : (j k : ℕ) → j < length r → k < length r → In es (after es empty_cut r k) (get_or r j 0) → j < k
  ahead j k a b h =
      elim (cases_lt j k) [
        | inl l ↦ l
        | inr l ↦
            let s = stood es sound r noted k (omega arith) (nexts k (omega arith)) (get_or r j 0) (noted j a) h in
            absurd (apart s.0 j (omega arith) a s.2)
      ]

  lacks : (g : Group) (k l : ℕ) → k ≤ l → k < length r → l < length r → Member es g (get_or r l 0) → Lacks es (after es empty_cut r k) g
  lacks g k l a b c m = (get_or r l 0, noted l c, m, λ h. omega (arith, ahead l k c b h))

  once : (j k : ℕ) → j < length r → k < length r → get_or r j 0 ≡ get_or r k 0 → j ≡ k
  once j k a b e =
      elim (cases_order j k) [
        | inl q ↦ q
        | inr q ↦ elim q [ inl l ↦ absurd (apart j k l b e) | inr l ↦ absurd (apart k j l a (sym e)) ]
      ]

  pub consistent : Consistent es r
  consistent = record {
    ordering = record {
      noted = noted;
      each = λ i h. stood es sound r noted (length r) (omega arith) (nexts (length r) (omega arith)) i h (steps.ends i h);
      once = once;
    };
    in_order = λ j k a b h. ahead j k a b ((steps.follows k b).ready (get_or r j 0) (noted j a) h);
    together = λ g j k l a b c m n t o.
        let d : k < length r = omega arith in
        (steps.follows k d).alone g t o
        (opened es (after es empty_cut r k) g
        (get_or r j 0, noted j (omega arith), m, kept j k a (omega arith))
        (lacks g k l (omega arith) d c n));
    starts = λ x j k a b m t o.
        elim (cases_lt j k) [
          | inl l ↦ l
          | inr l ↦ absurd ((steps.follows k b).alone (starting x) t o (lacks (starting x) k j l b a m))
        ];
  }

-- a consistent run is a path
module _ (es : List Event) (sound : Sound es) (r : List ℕ) (run : Consistent es r) where
  noted' : (k : ℕ) → k < length r → get_or r k 0 < length es
  noted' = run.ordering.noted

  -- what is before the event at k stands ahead of it
  before_ahead : (i k : ℕ) → i < length es → k < length r → Before es i (get_or r k 0) → (q : ℕ) × (q < k) × (get_or r q 0 ≡ i)
  before_ahead i k a b h =
      let s = run.ordering.each i a in
      (s.0, run.in_order s.0 k s.1 b (subst (λ j. Before es j (get_or r k 0)) (sym s.2) h), s.2)

  next_at : (k : ℕ) → k < length r → Nexts es r k → Next es (after es empty_cut r k) (get_or r k 0)
  next_at k h nx =
      let i : ℕ = get_or r k 0 in
      let c : Cut = after es empty_cut r k in
      elim (cases_order (place_at es i) (suc (c (thread_at es i)))) [
        | inl q ↦ q
        | inr q ↦ elim q [
          | inl l ↦
              let s = stood es sound r noted' k (omega arith) nx i (noted' k h) (omega arith) in
              absurd (omega (arith, run.ordering.once s.0 k (omega arith) h s.2))
          | inr l ↦
              let m = place_met es sound i (c (thread_at es i)) (noted' k h) l in
              let b = before_ahead m.0 k m.1 h (in_thread m.1 (noted' k h) m.2 (omega arith)) in
              let s : In es c m.0 = subst (In es c) b.2 (stays es sound r noted' b.0 k b.1 (omega arith) (nx b.0 b.1)) in
              let e : c (thread_at es m.0) ≡ c (thread_at es i) = ap c m.2 in
              absurd (omega arith)
        ]
      ]

  nexts' : (k : ℕ) → k ≤ length r → Nexts es r k
  nexts' zero h p l = absurd (omega arith)
  nexts' (suc k) h p l =
      elim (cases_lt p k) [
        | inl b ↦ nexts' k (omega arith) p b
        | inr b ↦
            let e : k ≡ p = omega arith in
            subst (λ q. Next es (after es empty_cut r q) (get_or r q 0)) e (next_at k h (nexts' k (omega arith)))
      ]

  next' : (k : ℕ) → k < length r → Next es (after es empty_cut r k) (get_or r k 0)
  next' k h = nexts' (suc k) h k (omega arith)

  stays' : (p k i : ℕ) → p < k → k ≤ length r → get_or r p 0 ≡ i → In es (after es empty_cut r k) i
  stays' p k i a b e = subst (In es (after es empty_cut r k)) e (stays es sound r noted' p k a b (next' p (omega arith)))

  -- a member that the cut at k lacks stands at k or later
  lacking : (g : Group) (k : ℕ) → k < length r → Lacks es (after es empty_cut r k) g → (q : ℕ) × (q < length r) × (k ≤ q) × Member es g (get_or r q 0)
  lacking g k h l =
      let s = run.ordering.each l.0 l.1 in
      let m = subst (Member es g) (sym s.2) l.2 in
      elim (cases_lt s.0 k) [
        | inl b ↦ absurd (l.3 (stays' s.0 k l.0 b (omega arith) s.2))
        | inr b ↦ (s.0, s.1, b, m)
      ]

  alone : (k : ℕ) → k < length r → (g : Group) → Touches es g (get_or r k 0) → (Member es g (get_or r k 0) → ⊥) → Open es (after es empty_cut r k) g → ⊥
  alone k h (starting x) t n o =
      let s = lacking (starting x) k h o in
      omega (arith, run.starts x s.0 k s.1 h s.3 t n)
  alone k h (led e) t n o =
      let s = lacking (led e) k h o.1 in
      let a = stood es sound r noted' k (omega arith) (nexts' k (omega arith)) o.0.0 o.0.1 o.0.3 in
      elim (cases_lt k s.0) [
        | inl l ↦ run.together (led e) a.0 k s.0 a.1 l s.1 (subst (Member es (led e)) (sym a.2) o.0.2) s.3 t n
        | inr l ↦
            let q : s.0 ≡ k = omega arith in
            n (subst (λ p. Member es (led e) (get_or r p 0)) q s.3)
      ]

  pub path : Steps es empty_cut r
  path = record {
    follows = λ k h. record {
      noted = noted' k h;
      next = next' k h;
      ready = λ j a b. let s = before_ahead j k a h b in stays' s.0 k j s.1 (omega arith) s.2;
      alone = alone k h;
    };
    ends = λ i a. let s = run.ordering.each i a in stays' s.0 (length r) i s.1 (omega arith) s.2;
  }

pub runs_are_paths : (es : List Event) → Sound es → (ts : List ℕ) → (Accepted es ts → RunOf es ts) × (RunOf es ts → Accepted es ts)
runs_are_paths es sound ts = (
  (λ a. let s = unroll es empty_cut ts a in (s.0, consistent es sound s.0 s.1, s.2)),
  (λ h. subst (λ us. Accepted es us) h.2 (roll es empty_cut h.0 (path es sound h.0 h.1))),
)
