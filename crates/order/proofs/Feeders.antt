-- What feeds an event: at most one event, and at a read or a release there is one to be found.
use Rattle.std.proofs.Common.{◌≡◌, ℕ, zero, suc, ◌<◌, Bool, ◌⊎◌, List, Decides, sym, refl, ◌∙◌, subst, inl, inr, arith}
use Rattle.std.proofs.lemmas.Bool.{cases_lt, cases_order, cases_Bool}
use Rattle.std.proofs.lemmas.Bool.Decides.{not_from_Decides}
use Rattle.events.specs.declared.event.Event.{Event}
use Rattle.order.specs.Trace.{thread_at, Is, Reads, Writes, Acquires, Releases, Of}
use Rattle.order.specs.Trace.Object.{lock}
use Rattle.order.specs.Before.{NoneBetween, Feeds}
use Rattle.order.specs.Before.Feeds.{value, hold}
use Rattle.order.specs.Groups.{Member}
use Rattle.order.specs.Groups.Group.{starting}
use Rattle.order.specs.Tests.{is}
use Rattle.order.specs.Sound.{Holds, Sound}
use Rattle.order.proofs.Decided.{decides_is}

-- an event has one kind and one subject
pub clash : {A : Type 0} (es : List Event) (k s k' s' i : ℕ) → (k ≡ k' → ⊥) → Is es k s i → Is es k' s' i → A
clash es k s k' s' i n a b = absurd (n (sym a.kind ∙ b.kind))

pub agree : (es : List Event) (k s k' s' i : ℕ) → Is es k s i → Is es k' s' i → s ≡ s'
agree es k s k' s' i a b = sym a.subject ∙ b.subject

-- the last number below n that passes, or none does
pub last_below : (p : ℕ → Bool) (P : ℕ → Type 0) → ((k : ℕ) → Decides (p k) (P k)) → (n : ℕ)
    → ((k : ℕ) × (k < n) × P k × NoneBetween k n P) ⊎ ((k : ℕ) → k < n → P k → ⊥)
last_below p P d zero = inr (λ k l h. omega arith)
last_below p P d (suc n) =
    elim (cases_Bool (p n)) [
      | inl e ↦ inl (n, omega arith, (d n).0 e, λ q a b h. omega arith)
      | inr e ↦
          let no' = not_from_Decides (p n) (d n) e in
          elim (last_below p P d n) [
            | inl s ↦ inl (
              s.0,
              omega arith,
              s.2,
              λ q a b h.
                  elim (cases_lt q n) [ inl l ↦ s.3 q a l h | inr l ↦ let z : q ≡ n = omega arith in no' (subst P z h) ],
            )
            | inr s ↦ inr (λ q b h.
                elim (cases_lt q n) [ inl l ↦ s q l h | inr l ↦ let z : q ≡ n = omega arith in no' (subst P z h) ])
          ]
    ]

-- the first number from a on and below n that passes, or none does
pub first_from_lem : (p : ℕ → Bool) (P : ℕ → Type 0) → ((k : ℕ) → Decides (p k) (P k)) → (a n : ℕ)
    → ((k : ℕ) × (a < k) × (k < n) × P k × NoneBetween a k P) ⊎ NoneBetween a n P
first_from_lem p P d a zero = inr (λ q x y h. omega arith)
first_from_lem p P d a (suc n) =
    elim (first_from_lem p P d a n) [
      | inl s ↦ inl (s.0, s.1, omega arith, s.3, s.4)
      | inr s ↦
          elim (cases_Bool (p n)) [
            | inl e ↦
                elim (cases_lt a n) [
                  | inl l ↦ inl (n, l, omega arith, (d n).0 e, s)
                  | inr l ↦ inr (λ q x y h. omega arith)
                ]
            | inr e ↦
                inr (λ q x y h.
                elim (cases_lt q n) [ inl l ↦ s q x l h | inr l ↦ let z : q ≡ n = omega arith in not_from_Decides (p n) (d n) e (subst P z h) ])
          ]
    ]

module _ (es : List Event) where
  pub one_feeder : (e e' f : ℕ) → Feeds es e f → Feeds es e' f → e ≡ e'
  one_feeder e e' f (value x w r l n) (hold y a b m o) = clash es 1 x 4 y f (λ z. omega arith) r b
  one_feeder e e' f (hold y a b m o) (value x w r l n) = clash es 1 x 4 y f (λ z. omega arith) r b
  one_feeder e e' f (value x w r l n) (value y a b m o) =
      elim (cases_order e e') [
        | inl q ↦ q
        | inr q ↦ elim q [
          | inl k ↦ absurd (n e' k m (subst (λ z. Writes es z e') (agree es 1 y 1 x f b r) a))
          | inr k ↦ absurd (o e k l (subst (λ z. Writes es z e) (agree es 1 x 1 y f r b) w))
        ]
      ]
  one_feeder e e' f (hold x w r l n) (hold y a b m o) =
      elim (cases_order e e') [
        | inl q ↦ q
        | inr q ↦ elim q [
          | inl k ↦ absurd (n e' k m (subst (λ z. Of es (lock z) e') (agree es 4 y 4 x f b r) (inl a)))
          | inr k ↦ absurd (o e k l (subst (λ z. Of es (lock z) e) (agree es 4 x 4 y f r b) (inl w)))
        ]
      ]

  -- an acquire feeds one release
  pub one_release : (e f f' l : ℕ) → Acquires es l e → Feeds es e f → Feeds es e f' → f ≡ f'
  one_release e f f' l c (value x w r u n) h = clash es 3 l 2 x e (λ z. omega arith) c w
  one_release e f f' l c (hold x w r u n) (value y a b v o) = clash es 3 l 2 y e (λ z. omega arith) c a
  one_release e f f' l c (hold x w r u n) (hold y a b v o) =
      elim (cases_order f f') [
        | inl q ↦ q
        | inr q ↦ elim q [
          | inl k ↦ absurd (o f u k (subst (λ z. Of es (lock z) f) (agree es 3 x 3 y e w a) (inr r)))
          | inr k ↦ absurd (n f' v k (subst (λ z. Of es (lock z) f') (agree es 3 y 3 x e a w) (inr b)))
        ]
      ]

  -- a read is a starting read, or a write feeds it
  pub reads_from : (x i : ℕ) → Reads es x i → Member es (starting x) i ⊎ ((e : ℕ) × Feeds es e i)
  reads_from x i r =
      elim (last_below (is es 2 x) (Writes es x) (decides_is es 2 x) i) [
        | inl s ↦ inr (s.0, value x s.2 r s.1 s.3)
        | inr s ↦ inl (r, s)
      ]

  -- of a lock that is held and then released, the acquire feeds the release
  pub release_from : Sound es → (l i : ℕ) → Releases es l i → (e : ℕ) × Feeds es e i × Acquires es l e × (thread_at es e ≡ thread_at es i)
  release_from sound l i r =
      let h = sound.releases l i r in
      (h.since, hold l h.acquired r h.earlier (between h), h.acquired, h.own)
    where
      between : (h : Holds es (thread_at es i) l i) → NoneBetween h.since i (Of es (lock l))
      between h q a b (inr k) = h.kept q a b k
      between h q a b (inl k) =
          sound.acquires l q k (thread_at es h.since)
          (record { since = h.since; earlier = a; acquired = h.acquired; own = refl; kept = λ p c d. h.kept p c (omega arith) })

  -- what feeds is a write or an acquire, what is fed is a read or a release
  pub feeds_leads : (e f : ℕ) → Feeds es e f → (x : ℕ) × (Writes es x e ⊎ Acquires es x e)
  feeds_leads e f (value x w r u n) = (x, inl w)
  feeds_leads e f (hold x w r u n) = (x, inr w)

  pub feeds_ends : (e f : ℕ) → Feeds es e f → (x : ℕ) × (Reads es x f ⊎ Releases es x f)
  feeds_ends e f (value x w r u n) = (x, inl r)
  feeds_ends e f (hold x w r u n) = (x, inr r)

  pub releases_of : (e f l : ℕ) → Acquires es l e → Feeds es e f → Releases es l f
  releases_of e f l a (value x w r u n) = clash es 3 l 2 x e (λ z. omega arith) a w
  releases_of e f l a (hold x w r u n) = subst (λ z. Releases es z f) (agree es 3 x 3 l e w a) r

-- nothing feeds a starting read
pub no_feeder : (es : List Event) (e f x : ℕ) → Member es (starting x) f → Feeds es e f → ⊥
no_feeder es e f x m (value y w d l n) = m.1 e l (subst (λ z. Writes es z e) (agree es 1 y 1 x f d m.0) w)
no_feeder es e f x m (hold y w d l n) = clash es 1 x 4 y f (λ z. omega arith) m.0 d

-- what feeds a read is the latest write of its variable
pub fed_write : (es : List Event) (e f x : ℕ) → Reads es x f → Feeds es e f → Writes es x e × (e < f) × NoneBetween e f (Writes es x)
fed_write es e f x r (value y w d l n) =
    let q = agree es 1 y 1 x f d r in
    (subst (λ z. Writes es z e) q w, l, subst (λ z. NoneBetween e f (Writes es z)) q n)
fed_write es e f x r (hold y w d l n) = clash es 1 x 4 y f (λ z. omega arith) r d
