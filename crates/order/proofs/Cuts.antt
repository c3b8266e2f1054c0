-- A run and the cuts along it: what is in the cut after k events is what stands at the first k places.
use Rattle.std.proofs.Common.{◌≡◌, ℕ, zero, suc, ◌<◌, ◌≤◌, ◌⊎◌, List, [], ◌∷◌, map, length, get_or, sym, refl, ap, subst, ap₂, inl, inr, arith}
use Rattle.std.proofs.lemmas.Bool.{cases_lt, cases_eq, eq-eqb, ne_eqb}
use Rattle.events.specs.declared.event.Event.{Event}
use Rattle.order.specs.Trace.{thread_at, place_at}
use Rattle.order.specs.Cuts.{Cut, empty_cut, advance, In, MayFollow, AcceptedFrom}
use Rattle.order.specs.Sound.{Sound}
use Rattle.order.proofs.Places.{same_event}

-- the cut after the first k events of r, from the cut c
abbrev pub after : List Event → Cut → List ℕ → ℕ → Cut
after es c r zero = c
after es c [] (suc k) = c
after es c (i ∷ r) (suc k) = after es (advance (thread_at es i) c) r k

pub after_suc : (es : List Event) (c : Cut) (r : List ℕ) (k : ℕ) → k < length r
    → after es c r (suc k) ≡ advance (thread_at es (get_or r k 0)) (after es c r k)
after_suc es c [] k h = absurd (omega arith)
after_suc es c (i ∷ r) zero h = refl
after_suc es c (i ∷ r) (suc k) h = after_suc es (advance (thread_at es i) c) r k (omega arith)

-- each event of r may follow the cut of those ahead of it, and at the end all are in
pub record Steps (es : List Event) (c : Cut) (r : List ℕ) : Type 0 where
  pub follows : (k : ℕ) → k < length r → MayFollow es (after es c r k) (get_or r k 0)
  pub ends : (i : ℕ) → i < length es → In es (after es c r (length r)) i

pub roll : (es : List Event) (c : Cut) (r : List ℕ) → Steps es c r → AcceptedFrom es c (map (thread_at es) r)
roll es c [] s = s.ends
roll es c (i ∷ r) s = (
  i,
  s.follows 0 (omega arith),
  refl,
  roll es (advance (thread_at es i) c) r (record { follows = λ k h. s.follows (suc k) (omega arith); ends = s.ends }),
)

pub steps_cons : (es : List Event) (c : Cut) (i : ℕ) (r : List ℕ) → MayFollow es c i → Steps es (advance (thread_at es i) c) r → Steps es c (i ∷ r)
steps_cons es c i r m s = record { follows = go; ends = s.ends }
  where
    go : (k : ℕ) → k < length (i ∷ r) → MayFollow es (after es c (i ∷ r) k) (get_or (i ∷ r) k 0)
    go zero h = m
    go (suc k) h = s.follows k (omega arith)

pub unroll : (es : List Event) (c : Cut) (ts : List ℕ) → AcceptedFrom es c ts → (r : List ℕ) × Steps es c r × (map (thread_at es) r ≡ ts)
unroll es c [] a = ([], record { follows = λ k h. absurd (omega arith); ends = a }, refl)
unroll es c (t ∷ ts) a =
    let s = unroll es (advance (thread_at es a.0) c) ts (subst (λ u. AcceptedFrom es (advance u c) ts) (sym a.2) a.3) in
    (a.0 ∷ s.0, steps_cons es c a.0 s.0 a.1 s.1, ap₂ (λ u us. u ∷ us) a.2 s.2)

pub advance_own : (t : ℕ) (c : Cut) (u : ℕ) → t ≡ u → advance t c u ≡ suc (c u)
advance_own t c u e = rw (eq-eqb t u e)

pub advance_other : (t : ℕ) (c : Cut) (u : ℕ) → (t ≡ u → ⊥) → advance t c u ≡ c u
advance_other t c u n = rw (ne_eqb t u n)

pub in_advance : (es : List Event) (c : Cut) (t j : ℕ) → In es c j → In es (advance t c) j
in_advance es c t j h =
    elim (cases_eq t (thread_at es j)) [
      | inl e ↦ omega (arith, advance_own t c (thread_at es j) e)
      | inr n ↦ omega (arith, advance_other t c (thread_at es j) n)
    ]

-- event i is its thread's next
abbrev pub Next : List Event → Cut → ℕ → Type 0
Next es c i = place_at es i ≡ suc (c (thread_at es i))

module _ (es : List Event) (sound : Sound es) where
  pub in_advance_cases : (c : Cut) (i j : ℕ) → i < length es → j < length es → Next es c i
      → In es (advance (thread_at es i) c) j → In es c j ⊎ (j ≡ i)
  in_advance_cases c i j a b n h =
      elim (cases_eq (thread_at es i) (thread_at es j)) [
        | inl e ↦
            let own = advance_own (thread_at es i) c (thread_at es j) e in
            let same : c (thread_at es i) ≡ c (thread_at es j) = ap c e in
            elim (cases_lt (c (thread_at es j)) (place_at es j)) [
              | inl l ↦ inr (same_event es sound j i b a (sym e) (omega arith))
              | inr l ↦ inl l
            ]
        | inr d ↦ inl (omega (arith, advance_other (thread_at es i) c (thread_at es j) d))
      ]

-- the first k events of r are each the next of its thread
abbrev pub Nexts : List Event → List ℕ → ℕ → Type 0
Nexts es r k = (p : ℕ) → p < k → Next es (after es empty_cut r p) (get_or r p 0)

module _ (es : List Event) (sound : Sound es) (r : List ℕ) (noted : (k : ℕ) → k < length r → get_or r k 0 < length es) where
  -- what is in the cut stands ahead
  pub stood : (k : ℕ) → k ≤ length r → Nexts es r k → (j : ℕ) → j < length es → In es (after es empty_cut r k) j
      → (p : ℕ) × (p < k) × (get_or r p 0 ≡ j)
  stood zero l nx j b h = absurd (omega (arith, sound.places j b))
  stood (suc k) l nx j b h =
      elim (in_advance_cases es sound (after es empty_cut r k) (get_or r k 0) j (noted k l) b (nx k (omega arith))
      (subst (λ c. In es c j) (after_suc es empty_cut r k l) h)) [
        | inl a ↦
            let s = stood k (omega arith) (λ p q. nx p (omega arith)) j b a in
            (s.0, omega arith, s.2)
        | inr q ↦ (k, omega arith, sym q)
      ]

  -- what stands ahead is in the cut
  pub stays : (p k : ℕ) → p < k → k ≤ length r → Next es (after es empty_cut r p) (get_or r p 0) → In es (after es empty_cut r k) (get_or r p 0)
  stays p zero a l n = absurd (omega arith)
  stays p (suc k) a l n =
      elim (cases_lt p k) [
        | inl b ↦
            let s = stays p k b (omega arith) n in
            subst (λ c. In es c (get_or r p 0)) (sym (after_suc es empty_cut r k l)) (in_advance es (after es empty_cut r k) (thread_at es (get_or r k 0)) (get_or r p 0) s)
        | inr b ↦
            let e : k ≡ p = omega arith in
            let f : after es empty_cut r (suc k) ≡ advance (thread_at es (get_or r p 0)) (after es empty_cut r p)
            = subst (λ q. after es empty_cut r (suc k) ≡ advance (thread_at es (get_or r q 0)) (after es empty_cut r q)) e (after_suc es empty_cut r k l) in
            subst (λ c. In es c (get_or r p 0)) (sym f)
            (omega (arith, advance_own (thread_at es (get_or r p 0)) (after es empty_cut r p) (thread_at es (get_or r p 0)) refl))
      ]
