-- Lists of rows in order; events that agree; events and rows that agree in all they hold; a list made of choices.
use Rattle.std.proofs.Common.{◌≡◌, ℕ, zero, suc, ◌<◌, List, [], ◌∷◌, length, get_or, sym, refl, ap, ◌∙◌, subst, inl, inr, arith}
use Rattle.std.proofs.lemmas.List.{ext_get_or}
use Rattle.std.proofs.lemmas.Bool.{cases_order}
use Rattle.events.specs.declared.event.Event.{Event}
use Rattle.order.specs.declared.row.Row.{Row}
use Rattle.order.specs.Maps.{no_row, Ahead}

pub same_threads : {a b : Event} → a ≡ b → a.thread ≡ b.thread
same_threads e = ap (λ (x : Event). x.thread) e

pub same_places : {a b : Event} → a ≡ b → a.place ≡ b.place
same_places e = ap (λ (x : Event). x.place) e

pub same_events : (a b : Event) → a.thread ≡ b.thread → a.place ≡ b.place → a.kind ≡ b.kind → a.subject ≡ b.subject → a.value ≡ b.value → a ≡ b
same_events a b t p k s v = λ i. record { thread = t i; place = p i; kind = k i; subject = s i; value = v i }

pub same_rows : (a b : Row) → a.event ≡ b.event → a.source.0 ≡ b.source.0 → a.source.1 ≡ b.source.1 → a.clock ≡ b.clock → a ≡ b
same_rows a b e x y c = λ i. record { event = e i; source = (x i, y i); clock = c i }

-- a choice for each number below n, as a list
pub listed : (n : ℕ) (P : ℕ → ℕ → Type 0) → ((i : ℕ) → i < n → (x : ℕ) × P i x)
    → (r : List ℕ) × (length r ≡ n) × ((i : ℕ) → i < n → P i (get_or r i 0))
listed zero P h = ([], refl, λ i l. absurd (omega arith))
listed (suc n) P h =
    let x = h 0 (omega arith) in
    let s = listed n (λ i. P (suc i)) (λ i l. h (suc i) (omega arith)) in
    (x.0 ∷ s.0, ap suc s.1, go x.0 x.1 s.0 s.2)
  where
    go : (x : ℕ) → P 0 x → (r : List ℕ) → ((i : ℕ) → i < n → P (suc i) (get_or r i 0)) → (i : ℕ) → i < suc n → P i (get_or (x ∷ r) i 0)
    go x p r f zero l = p
    go x p r f (suc i) l = f i (omega arith)

ahead_apart : (v w : Row) → v ≡ w → Ahead v w → ⊥
ahead_apart v w e (inl l) = omega (arith, ap (λ (u : Row). u.event.thread) e)
ahead_apart v w e (inr l) = omega (arith, ap (λ (u : Row). u.event.place) e)

ahead_once : (v w : Row) → Ahead v w → Ahead w v → ⊥
ahead_once v w (inl a) (inl b) = omega arith
ahead_once v w (inl a) (inr b) = omega arith
ahead_once v w (inr a) (inl b) = omega arith
ahead_once v w (inr a) (inr b) = omega arith

abbrev pub Ascends : List Row → Type 0
Ascends m = (j k : ℕ) → j < k → k < length m → Ahead (get_or m j no_row) (get_or m k no_row)

abbrev pub Among : List Row → List Row → Type 0
Among m n = (k : ℕ) → k < length m → (q : ℕ) × (q < length n) × (get_or m k no_row ≡ get_or n q no_row)

-- two lists in order with the same rows are equal
module _ (m n : List Row) (am : Ascends m) (an : Ascends n) (mn : Among m n) (nm : Among n m) where
  same_upto : (l k : ℕ) → k < l → k < length m → k < length n → get_or m k no_row ≡ get_or n k no_row
  same_upto zero k h a b = absurd (omega arith)
  same_upto (suc l) k h a b =
      let ih : (q : ℕ) → q < k → get_or m q no_row ≡ get_or n q no_row = λ q c. same_upto l q (omega arith) (omega arith) (omega arith) in
      let s = mn k a in
      let t = nm k b in
      elim (cases_order s.0 k) [
        | inl e ↦ s.2 ∙ ap (λ q. get_or n q no_row) e
        | inr e ↦ elim e [
          | inl c ↦ absurd (ahead_apart (get_or m s.0 no_row) (get_or m k no_row) (ih s.0 c ∙ sym s.2) (am s.0 k c a))
          | inr c ↦
              elim (cases_order t.0 k) [
                | inl f ↦ sym (t.2 ∙ ap (λ q. get_or m q no_row) f)
                | inr f ↦ elim f [
                  | inl d ↦ absurd (ahead_apart (get_or n t.0 no_row) (get_or n k no_row) (sym (ih t.0 d) ∙ sym t.2) (an t.0 k d b))
                  | inr d ↦
                      absurd (ahead_once (get_or n k no_row) (get_or m k no_row)
                      (subst (Ahead (get_or n k no_row)) (sym s.2) (an k s.0 c s.1))
                      (subst (Ahead (get_or m k no_row)) (sym t.2) (am k t.0 d t.1)))
                ]
              ]
        ]
      ]

  no_longer : length m < length n → ⊥
  no_longer l =
      let t = nm (length m) l in
      ahead_apart (get_or n t.0 no_row) (get_or n (length m) no_row)
      (sym (same_upto (suc t.0) t.0 (omega arith) t.1 (omega arith)) ∙ sym t.2) (an t.0 (length m) t.1 l)

pub same_lists : (m n : List Row) → Ascends m → Ascends n → Among m n → Among n m → m ≡ n
same_lists m n am an mn nm =
    let a = no_longer m n am an mn nm in
    let b = no_longer n m an am nm mn in
    let e : length m ≡ length n =
    elim (cases_order (length m) (length n)) [ inl q ↦ q | inr q ↦ elim q [ inl l ↦ absurd (a l) | inr l ↦ absurd (b l) ] ] in
    ext_get_or no_row m n e (λ k l. same_upto m n am an mn nm (suc k) k (omega arith) l (omega arith))
