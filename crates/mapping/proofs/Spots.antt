-- Where the rows stand: each event's row has a position of its own, by thread and then by place, and each position a row.
use Rattle.std.proofs.Common.{◌≡◌, ℕ, zero, suc, ◌+◌, ◌-◌, ◌<◌, ◌≤◌, Bool, ltb, List, length, get_or, take, set, sym, refl, ap, ◌∙◌, subst, ap₂, inl, inr, add-one, arith}
use Rattle.std.specs.List.{count_by}
use Rattle.std.proofs.Math.Seq.{take-length}
use Rattle.std.proofs.lemmas.List.Sums.{count_by_more_yes, count_by_more_no}
use Rattle.std.proofs.lemmas.List.Edits.{fill_by_more}
use Rattle.std.proofs.lemmas.List.{get_or-set_same, get_or-set_other}
use Rattle.std.proofs.lemmas.Bool.{cases_lt, cases_eq, cases_order, lt-ltb, le-ltb}
use Rattle.events.specs.declared.event.Event.{Event}
use Rattle.order.specs.Trace.{blank, thread_at, place_at}
use Rattle.order.specs.Sound.{count, Sound}
use Rattle.order.proofs.Places.{count_own, count_other, count_up, count_met}
use Rattle.mapping.specs.Rows.{base}

-- how many of the first k events are of the threads below t
abbrev among : List Event → ℕ → ℕ → ℕ
among es zero k = 0
among es (suc t) k = among es t k + count es t k

-- how many rows stand ahead of thread t's first, thread by thread
abbrev pub start : List Event → ℕ → ℕ
start es t = among es t (length es)

module _ (es : List Event) where
  among_none : (t : ℕ) → among es t 0 ≡ 0
  among_none zero = refl
  among_none (suc t) = omega (arith, among_none t)

  -- event k is of thread t or one above
  among_other : (t k : ℕ) → t ≤ thread_at es k → among es t (suc k) ≡ among es t k
  among_other zero k h = refl
  among_other (suc t) k h = ap₂ (λ a b. a + b) (among_other t k (omega arith)) (count_other es t k (λ e. omega arith))

  -- event k is of a thread below t
  among_own : (t k : ℕ) → thread_at es k < t → among es t (suc k) ≡ suc (among es t k)
  among_own zero k h = absurd (omega arith)
  among_own (suc t) k h =
      elim (cases_lt (thread_at es k) t) [
        | inl l ↦ let a = among_own t k l in let b = count_other es t k (λ e. omega arith) in omega (arith, a, b)
        | inr l ↦
            let q : thread_at es k ≡ t = omega arith in
            let a = among_other t k l in
            let b = count_own es t k q in
            omega (arith, a, b)
      ]

  pub among_le : (t k : ℕ) → among es t k ≤ k
  among_le t zero = omega (arith, among_none t)
  among_le t (suc k) =
      let ih = among_le t k in
      elim (cases_lt (thread_at es k) t) [
        | inl l ↦ omega (arith, among_own t k l)
        | inr l ↦ omega (arith, among_other t k l)
      ]

  among_all : (t k : ℕ) → ((i : ℕ) → i < k → thread_at es i < t) → among es t k ≡ k
  among_all t zero h = among_none t
  among_all t (suc k) h = among_own t k (h k (omega arith)) ∙ ap suc (among_all t k (λ i l. h i (omega arith)))

  among_up : (s t k : ℕ) → s ≤ t → among es s k ≤ among es t k
  among_up s zero k h = let e : s ≡ 0 = omega arith in omega (arith, ap (λ n. among es n k) e)
  among_up s (suc t) k h =
      elim (cases_lt t s) [
        | inl l ↦ let e : s ≡ suc t = omega arith in omega (arith, ap (λ n. among es n k) e)
        | inr l ↦ omega (arith, among_up s t k l)
      ]

  among_by : (t k : ℕ) → k ≤ length es → count_by (λ (e : Event). ltb e.thread t) (take k es) ≡ among es t k
  among_by t zero h = sym (among_none t)
  among_by t (suc k) h =
      let ih = among_by t k (omega arith) in
      let below : Event → Bool = λ e. ltb e.thread t in
      subst (λ n. count_by below (take n es) ≡ among es t (suc k)) (add-one k)
      (elim (cases_lt (thread_at es k) t) [
        | inl l ↦ count_by_more_yes below es k blank h (lt-ltb (thread_at es k) t l) ∙ omega (arith, ih, among_own t k l)
        | inr l ↦ count_by_more_no below es k blank h (le-ltb (thread_at es k) t l) ∙ ih ∙ sym (among_other t k l)
      ])

  start_is : (t : ℕ) → base es t ≡ start es t
  unfolding base
  start_is t =
      let below : Event → Bool = λ e. ltb e.thread t in
      ap (count_by below) (sym (take-length es)) ∙ among_by t (length es) (omega arith)

  -- event k is counted at its thread
  pub counts_next : (counts : List ℕ) (k : ℕ) → length counts ≡ 8 → thread_at es k < 8
      → ((t : ℕ) → t < 8 → get_or counts t 0 ≡ count es t k)
      → (t : ℕ) → t < 8 → get_or (set counts (thread_at es k) (get_or counts (thread_at es k) 0 + 1)) t 0 ≡ count es t (k + 1)
  counts_next counts k n u h t l =
      let x : ℕ = thread_at es k in
      let y : ℕ = get_or counts x 0 + 1 in
      elim (cases_eq x t) [
        | inl q ↦
            let a : get_or (set counts x y) t 0 ≡ y = subst (λ i. get_or (set counts x y) i 0 ≡ y) q (get_or-set_same counts x y 0 (omega arith)) in
            let b : y ≡ suc (count es t k) = add-one (get_or counts x 0) ∙ ap suc (ap (λ i. get_or counts i 0) q ∙ h t l) in
            a ∙ b ∙ sym (count_own es t k q) ∙ ap (count es t) (sym (add-one k))
        | inr q ↦
            get_or-set_other counts x t y 0 (λ z. q (sym z)) ∙ h t l ∙ sym (count_other es t k q) ∙ ap (count es t) (sym (add-one k))
      ]

  -- the rows ahead of the first thread, and of the next one
  pub base_none : base es 0 ≡ 0
  base_none = start_is 0

  pub base_more : (t : ℕ) → base es (t + 1) ≡ base es t + count es t (length es)
  base_more t = let a = start_is (suc t) in let b = start_is t in ap (base es) (add-one t) ∙ omega (arith, a, b)

  pub base_le : (t : ℕ) → base es t ≤ length es
  base_le t = let a = start_is t in omega (arith, a, among_le t (length es))

  -- one more base is written
  pub bases_next : (bases : List ℕ) (t b : ℕ) → t < length bases → b ≡ base es t → ((u : ℕ) → u < t → get_or bases u 0 ≡ base es u)
      → (u : ℕ) → u < t + 1 → get_or (set bases t b) u 0 ≡ base es u
  bases_next bases t b l e h u v =
      ap (λ x. get_or (set bases t x) u 0) e ∙ fill_by_more (base es) bases t 0 l h u v

  -- the position of event i's row
  abbrev pub spot : ℕ → ℕ
  spot i = start es (thread_at es i) + count es (thread_at es i) i

  -- by its place
  pub spot_by_place : Sound es → (i : ℕ) → i < length es → start es (thread_at es i) + place_at es i ≡ suc (spot i)
  spot_by_place sound i h = let p = sound.places i h in omega (arith, p)

  spot_under : (i : ℕ) → i < length es → spot i < start es (suc (thread_at es i))
  spot_under i h =
      let t : ℕ = thread_at es i in
      let a = count_own es t i refl in
      let b = count_up es t (suc i) (length es) h in
      omega (arith, a, b)

  pub spot_below : (n : ℕ) → ((i : ℕ) → i < length es → thread_at es i < n) → (i : ℕ) → i < length es → spot i < length es
  spot_below n few i h =
      let a = spot_under i h in
      let b = among_up (suc (thread_at es i)) n (length es) (few i h) in
      let c = among_le n (length es) in
      omega (arith, a, b, c)

  -- of a lower thread
  pub spot_thread : (i j : ℕ) → i < length es → thread_at es i < thread_at es j → spot i < spot j
  spot_thread i j h l =
      let a = spot_under i h in
      let b = among_up (suc (thread_at es i)) (thread_at es j) (length es) l in
      omega (arith, a, b)

  -- of one thread, noted earlier
  pub spot_later : (i j : ℕ) → i < j → thread_at es i ≡ thread_at es j → spot i < spot j
  spot_later i j l e =
      let t : ℕ = thread_at es j in
      let a = count_own es t i e in
      let b = count_up es t (suc i) j l in
      let c : spot i ≡ start es t + count es t i = ap (λ u. start es u + count es u i) e in
      omega (arith, a, b, c)

  pub spot_apart : (i j : ℕ) → i < length es → j < length es → spot i ≡ spot j → i ≡ j
  spot_apart i j a b e =
      elim (cases_order (thread_at es i) (thread_at es j)) [
        | inl q ↦ elim (cases_order i j) [
          | inl z ↦ z
          | inr z ↦ elim z [
            | inl l ↦ let x = spot_later i j l q in absurd (omega arith)
            | inr l ↦ let x = spot_later j i l (sym q) in absurd (omega arith)
          ]
        ]
        | inr q ↦ elim q [
          | inl l ↦ let x = spot_thread i j a l in absurd (omega arith)
          | inr l ↦ let x = spot_thread j i b l in absurd (omega arith)
        ]
      ]

  spot_met : (t p : ℕ) → p < start es t → (i : ℕ) × (i < length es) × (spot i ≡ p)
  spot_met zero p h = absurd (omega arith)
  spot_met (suc t) p h =
      elim (cases_lt p (start es t)) [
        | inl l ↦ spot_met t p l
        | inr l ↦
            let m = count_met es t (p - start es t) (length es) (omega arith) in
            let e = m.2 in
            let c : spot m.0 ≡ start es t + count es t m.0 = ap (λ u. start es u + count es u m.0) e in
            let d = m.3 in
            (m.0, m.1, omega (arith, c, d))
      ]

  pub spot_each : (n : ℕ) → ((i : ℕ) → i < length es → thread_at es i < n) → (p : ℕ) → p < length es → (i : ℕ) × (i < length es) × (spot i ≡ p)
  spot_each n few p h = let e = among_all n (length es) few in spot_met n p (omega (arith, e))

  -- each event's position, by the bases
  pub position_is : Sound es → (bases : List ℕ) → ((t : ℕ) → t < 8 → get_or bases t 0 ≡ base es t)
      → (i : ℕ) → i < length es → thread_at es i < 8 → (p : ℕ × ℕ) → p.0 ≡ thread_at es i → p.1 ≡ place_at es i
      → get_or bases p.0 0 + p.1 ≡ suc (spot i)
  position_is sound bases h i l u p a b =
      ap₂ (λ x y. x + y) (ap (λ t. get_or bases t 0) a ∙ h (thread_at es i) u ∙ start_is (thread_at es i)) b ∙ spot_by_place sound i l
