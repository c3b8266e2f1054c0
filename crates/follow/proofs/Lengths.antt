-- A list of events of 8 threads, each with at most 255, is short.
use Rattle.std.proofs.Common.{◌≡◌, ℕ, zero, suc, ◌*◌, ◌<◌, ◌≤◌, eqb, List, [], ◌∷◌, length, refl, ap, ◌∙◌, inl, inr, arith}
use Rattle.std.proofs.lemmas.Bool.{cases_eq, cond-true, cond-false, eq-eqb, ne_eqb}
use Rattle.events.specs.declared.event.Event.{Event}
use Rattle.events.specs.Noting.{count_of}
use Rattle.follow.specs.Balance.{over_threads, ThreadsBelow}

over_none : (n : ℕ) → over_threads (λ t. 0) n ≡ 0
over_none zero = refl
over_none (suc n) = omega (arith, over_none n)

over_same : (f g : ℕ → ℕ) (n : ℕ) → ((t : ℕ) → t < n → g t ≡ f t) → over_threads g n ≡ over_threads f n
over_same f g zero h = refl
over_same f g (suc n) h = omega (arith, over_same f g n (λ t l. h t (omega arith)), h n (omega arith))

-- one more at thread u
over_more : (f g : ℕ → ℕ) (u : ℕ) → g u ≡ suc (f u) → ((t : ℕ) → (u ≡ t → ⊥) → g t ≡ f t)
    → (n : ℕ) → u < n → over_threads g n ≡ suc (over_threads f n)
over_more f g u own other zero l = absurd (omega arith)
over_more f g u own other (suc n) l =
    elim (cases_eq u n) [
      | inl e ↦
          omega (arith, over_same f g n (λ t m. other t (λ q. omega arith)), ap g e, ap f e, own)
      | inr d ↦ omega (arith, over_more f g u own other n (omega arith), other n d)
    ]

over_count : (n : ℕ) (es : List Event) → ThreadsBelow es n → over_threads (λ t. count_of t es) n ≡ length es
over_count n [] below = over_none n
over_count n (e ∷ es) below =
    over_more (λ t. count_of t es) (λ t. count_of t (e ∷ es)) e.thread
    (cond-true (eqb e.thread e.thread) (suc (count_of e.thread es)) (count_of e.thread es) (eq-eqb e.thread e.thread refl))
    (λ t d. cond-false (eqb e.thread t) (suc (count_of t es)) (count_of t es) (ne_eqb e.thread t d))
    n (below 0 (omega arith))
    ∙ ap suc (over_count n es (λ i l. below (suc i) (omega arith)))

over_bound : (f : ℕ → ℕ) → ((t : ℕ) → f t ≤ 255) → (n : ℕ) → over_threads f n ≤ 255 * n
over_bound f h zero = omega arith
over_bound f h (suc n) = omega (arith, over_bound f h n, h n)

pub few_events : (es : List Event) → ThreadsBelow es 8 → ((t : ℕ) → count_of t es ≤ 255) → length es ≤ 2040
few_events es below counts = omega (arith, over_count 8 es below, over_bound (λ t. count_of t es) counts 8)
