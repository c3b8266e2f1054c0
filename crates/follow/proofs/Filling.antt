-- What the tables hold when the first events of a noted list are taken in.
use Rattle.std.proofs.Common.{◌≡◌, ℕ, suc, ◌+◌, ◌^◌, ◌<◌, ◌≤◌, Bool, true, false, cond, ltb, ◌⊎◌, Some, None, Option, List, length, get_or, set, replicate, sym, refl, ap, ◌∙◌, subst, inl, inr, mod-eq_of_lt, arith, length-set, get_or-set_other, get_or-set_same}
use lib.ListN.{length-replicate, get_or-replicate}
use Rattle.events.specs.declared.event.Event.{Event}
use Rattle.order.specs.Trace.{blank, thread_at, place_at, kind_at, subject_at, Is, Reads, Writes, Acquires, Releases}
use Rattle.order.specs.Before.{NoneBetween, Feeds}
use Rattle.order.specs.Before.Feeds.{value, hold}
use Rattle.order.specs.Sound.{count, Sound}
use Rattle.order.specs.Maps.{Source}
use Rattle.order.specs.Clocks.{Number}
use Rattle.order.specs.Clocks.Number.{none, no_more}
use Rattle.order.specs.Clocks.Number.{one_more as counted_more}
use Rattle.order.proofs.Places.{same_event, count_own, count_other}
use Rattle.order.proofs.Order.{feeds_later}
use Rattle.order.proofs.Decided.{feeds_noted}
use Rattle.order.proofs.Feeders.{clash, agree, one_feeder, release_from, feeds_ends}
use Rattle.std.proofs.lemmas.Bool.{cases_lt, cases_eq, cases_order, cases_Bool, cond-true, cond-false, lt-ltb, le-ltb}
use Rattle.follow.specs.declared.role.Role.{Role}
use Rattle.follow.specs.declared.role.Role.TheVariants.{Lead, Take, Apart}
use Rattle.follow.specs.declared.tables.Groups.{Groups}
use Rattle.follow.specs.declared.tables.Standing.{Standing}
use Rattle.follow.specs.declared.tables.Tables.{Tables}
use Rattle.follow.specs.declared.tables.Tally.{Tally}
use Rattle.follow.specs.Balance.{Starts, ThreadsBelow}
use Rattle.follow.specs.Roles.{Takes, LeadsOf, RoleOf}
use Rattle.follow.specs.Made.{slot_of, cell_of, standing_in, groups_in, tally_at, tally_in, source_of}
use Rattle.follow.specs.Filling.{blank_tables, one_more, more_led, more_taken, more_starting, placed, leading, is_fed, with_taken, with_led, taking, entered}
use Rattle.follow.proofs.Counting.{number_le}

-- what the tables ask of a list
pub record Fit (es : List Event) : Type 0 where
  pub sound : Sound es
  pub few : ThreadsBelow es 8
  pub places : (i : ℕ) → i < length es → place_at es i < 256
  pub short : length es ≤ 2040
  pub variables : (i : ℕ) → i < length es → (kind_at es i ≡ 1) ⊎ (kind_at es i ≡ 2) → subject_at es i < 32
  pub locks : (i : ℕ) → i < length es → (kind_at es i ≡ 3) ⊎ (kind_at es i ≡ 4) → subject_at es i < 16

-- p is thread and place of the latest of the first n events that is of kind k and subject s
abbrev pub Latest : List Event → ℕ → ℕ → ℕ → ℕ × ℕ → Type 0
Latest es n k s p =
    ((e : ℕ) × (e < n) × Is es k s e × NoneBetween e n (Is es k s) × (p ≡ (thread_at es e, place_at es e)))
    ⊎ (((e : ℕ) → e < n → Is es k s e → ⊥) × (p ≡ (255, 0)))

-- fed by the event of thread t at place p; standing there
abbrev pub LedAt : List Event → ℕ → ℕ → ℕ → ℕ → ℕ → Type 0
LedAt es k s t p j = Is es k s j × ((e : ℕ) × Feeds es e j × (thread_at es e ≡ t) × (place_at es e ≡ p))

abbrev pub TakenAt : List Event → ℕ → ℕ → ℕ → ℕ → ℕ → Type 0
TakenAt es k s t p j = Is es k s j × (thread_at es j ≡ t) × (place_at es j ≡ p)

pub record Sizes (v : Tables) : Type 0 where
  pub counts : length v.counts ≡ 8
  pub standings : length v.standings ≡ 2048
  pub groups : length v.groups ≡ 48
  pub tallies : length v.tallies ≡ 98304

-- the first n events, each at its place
pub record Placed (es : List Event) (n : ℕ) (v : Tables) : Type 0 where
  pub counts : (t : ℕ) → t < 8 → get_or v.counts t 0 ≡ count es t n
  pub events : (i : ℕ) → i < n → (standing_in v (thread_at es i) (place_at es i)).event ≡ get_or es i blank
  pub sources : (i : ℕ) → i < n
      → Source es i (source_of (standing_in v (thread_at es i) (place_at es i)).source).0 (source_of (standing_in v (thread_at es i) (place_at es i)).source).1

abbrev pub Known : List Event → ℕ → Tables → Type 0
Known es n v = (k s b : ℕ) → LeadsOf k s b → Latest es n k s (source_of (groups_in v b).latest)

-- the first n events, counted
pub record Counted (es : List Event) (n : ℕ) (v : Tables) : Type 0 where
  pub starts : (k s b : ℕ) → Takes k s b → Number (Starts es k s) n (groups_in v b).starting
  pub led : (k s b : ℕ) → Takes k s b → (t p : ℕ) → t < 8 → p < 256 → Number (LedAt es k s t p) n (tally_in v t p b).led
  pub taken : (k s b : ℕ) → Takes k s b → (t p : ℕ) → t < 8 → p < 256 → Number (TakenAt es k s t p) n (tally_in v t p b).taken

pub record Filled (es : List Event) (n : ℕ) (v : Tables) : Type 0 where
  pub sizes : Sizes v
  pub placed_so : Placed es n v
  pub known : Known es n v
  pub counted : Counted es n v

-- objects are told apart by their numbers
pub takes_below : (k s b : ℕ) → Takes k s b → b < 48
takes_below k s b (inl h) = omega arith
takes_below k s b (inr h) = omega arith

takes_one : (k s k' s' b : ℕ) → Takes k s b → Takes k' s' b → (k ≡ k') × (s ≡ s')
takes_one k s k' s' b (inl h) (inl g) = (omega arith, omega arith)
takes_one k s k' s' b (inl h) (inr g) = absurd (omega arith)
takes_one k s k' s' b (inr h) (inl g) = absurd (omega arith)
takes_one k s k' s' b (inr h) (inr g) = (omega arith, omega arith)

takes_same : (k s b b' : ℕ) → Takes k s b → Takes k s b' → b ≡ b'
takes_same k s b b' (inl h) (inl g) = omega arith
takes_same k s b b' (inl h) (inr g) = absurd (omega arith)
takes_same k s b b' (inr h) (inl g) = absurd (omega arith)
takes_same k s b b' (inr h) (inr g) = omega arith

leads_below : (k s b : ℕ) → LeadsOf k s b → b < 48
leads_below k s b (inl h) = omega arith
leads_below k s b (inr h) = omega arith

leads_one : (k s k' s' b : ℕ) → LeadsOf k s b → LeadsOf k' s' b → (k ≡ k') × (s ≡ s')
leads_one k s k' s' b (inl h) (inl g) = (omega arith, omega arith)
leads_one k s k' s' b (inl h) (inr g) = absurd (omega arith)
leads_one k s k' s' b (inr h) (inl g) = absurd (omega arith)
leads_one k s k' s' b (inr h) (inr g) = (omega arith, omega arith)

leads_same : (k s b b' : ℕ) → LeadsOf k s b → LeadsOf k s b' → b ≡ b'
leads_same k s b b' (inl h) (inl g) = omega arith
leads_same k s b b' (inl h) (inr g) = absurd (omega arith)
leads_same k s b b' (inr h) (inl g) = absurd (omega arith)
leads_same k s b b' (inr h) (inr g) = omega arith

take_lead : {A : Type 0} (k s b s' b' : ℕ) → Takes k s b → LeadsOf k s' b' → A
take_lead k s b s' b' (inl h) (inl g) = absurd (omega arith)
take_lead k s b s' b' (inl h) (inr g) = absurd (omega arith)
take_lead k s b s' b' (inr h) (inl g) = absurd (omega arith)
take_lead k s b s' b' (inr h) (inr g) = absurd (omega arith)

-- a table with the entry at i changed
abbrev changed : {A : Type 0} → A → (A → A) → List A → ℕ → List A
changed d more xs i = set xs i (more (get_or xs i d))

changed_other : {A : Type 0} (d : A) (more : A → A) (xs : List A) (i j : ℕ) → (j ≡ i → ⊥) → get_or (changed d more xs i) j d ≡ get_or xs j d
changed_other d more xs i j n = get_or-set_other xs i j (more (get_or xs i d)) d n

-- a number of the entry is one more
raised_same : {A : Type 0} (d : A) (of : A → ℕ) (more : A → A) → ((x : A) → of (more x) ≡ one_more (of x))
    → (xs : List A) (i v : ℕ) → i < length xs → of (get_or xs i d) ≡ v → v ≤ 2040 → of (get_or (changed d more xs i) i d) ≡ suc v
raised_same d of more raises xs i v l e h =
    ap of (get_or-set_same xs i (more (get_or xs i d)) d l) ∙ raises (get_or xs i d)
    ∙ let small : of (get_or xs i d) + 1 < 2 ^ 16 = omega arith in mod-eq_of_lt small ∙ omega arith

-- a number of it stays
kept : {A : Type 0} (d : A) (of : A → ℕ) (more : A → A) → ((x : A) → of (more x) ≡ of x)
    → (xs : List A) (i j : ℕ) → i < length xs → of (get_or (changed d more xs i) j d) ≡ of (get_or xs j d)
kept d of more keeps xs i j l =
    elim (cases_eq j i) [
      | inl q ↦
          subst (λ z. of (get_or (changed d more xs i) z d) ≡ of (get_or xs z d)) (sym q)
          (ap of (get_or-set_same xs i (more (get_or xs i d)) d l) ∙ keeps (get_or xs i d))
      | inr q ↦ ap of (changed_other d more xs i j q)
    ]

abbrev no_tally : Tally
no_tally = record { led = 0; taken = 0 }

abbrev no_groups : Groups
no_groups = record { latest = None; starting = 0 }

module _ (es : List Event) (fit : Fit es) (n : ℕ) (near : n < length es) where
  abbrev e : Event
  e = get_or es n blank

  abbrev t₀ : ℕ
  t₀ = thread_at es n

  abbrev p₀ : ℕ
  p₀ = place_at es n

  thread_few : t₀ < 8
  thread_few = fit.few n near

  place_few : p₀ < 256
  place_few = fit.places n near

  -- events of other threads or places stand elsewhere
  slot_apart : (i : ℕ) → i < n → slot_of (thread_at es i) (place_at es i) ≡ slot_of t₀ p₀ → ⊥
  slot_apart i l h =
      let a : place_at es i < 256 = fit.places i (omega arith) in
      let b = place_few in
      let same-t : thread_at es i ≡ t₀ = omega arith in
      let same-p : place_at es i ≡ p₀ = omega arith in
      let q = same_event es fit.sound i n (omega arith) near same-t same-p in
      omega arith

  module _ (v : Tables) (sizes : Sizes v) (source : Option (ℕ × ℕ)) (from : Source es n (source_of source).0 (source_of source).1) (old : Placed es n v) where
    abbrev w : Tables
    w = placed v e source

    abbrev now : Standing
    now = record { event = e; source = source }

    abbrev nothing : Standing
    nothing = record { event = blank; source = None }

    slot_in : slot_of t₀ p₀ < length v.standings
    slot_in = omega (arith, thread_few, place_few, sizes.standings)

    count_now : (t : ℕ) → t < 8 → get_or w.counts t 0 ≡ count es t (suc n)
    count_now t l =
        elim (cases_eq t₀ t) [
          | inl q ↦
              subst (λ u. get_or (set v.counts t₀ p₀) u 0 ≡ count es u (suc n)) q
              (get_or-set_same v.counts t₀ p₀ 0 (omega (arith, thread_few, sizes.counts)) ∙ fit.sound.places n near ∙ sym (count_own es t₀ n refl))
          | inr q ↦ get_or-set_other v.counts t₀ t p₀ 0 (λ z. q (sym z)) ∙ old.counts t l ∙ sym (count_other es t n q)
        ]

    standing_other : (i : ℕ) → i < n → standing_in w (thread_at es i) (place_at es i) ≡ standing_in v (thread_at es i) (place_at es i)
    standing_other i l = get_or-set_other v.standings (slot_of t₀ p₀) (slot_of (thread_at es i) (place_at es i)) now nothing (slot_apart i l)

    standing_here : standing_in w t₀ p₀ ≡ now
    standing_here = get_or-set_same v.standings (slot_of t₀ p₀) now nothing slot_in

    event_now : (i : ℕ) → i < suc n → (standing_in w (thread_at es i) (place_at es i)).event ≡ get_or es i blank
    event_now i l =
        elim (cases_lt i n) [
          | inl b ↦ ap (λ (x : Standing). x.event) (standing_other i b) ∙ old.events i b
          | inr b ↦
              let q : n ≡ i = omega arith in
              subst (λ j. (standing_in w (thread_at es j) (place_at es j)).event ≡ get_or es j blank) q (ap (λ (x : Standing). x.event) standing_here)
        ]

    abbrev SourceAt : ℕ → Standing → Type 0
    SourceAt i x = Source es i (source_of x.source).0 (source_of x.source).1

    source_now : (i : ℕ) → i < suc n → SourceAt i (standing_in w (thread_at es i) (place_at es i))
    source_now i l =
        elim (cases_lt i n) [
          | inl b ↦ subst (SourceAt i) (sym (standing_other i b)) (old.sources i b)
          | inr b ↦
              let q : n ≡ i = omega arith in
              subst (λ j. SourceAt j (standing_in w (thread_at es j) (place_at es j))) q (subst (SourceAt n) (sym standing_here) from)
        ]

    placed_more : Placed es (suc n) w
    placed_more = record { counts = count_now; events = event_now; sources = source_now }

    sizes_placed : Sizes w
    sizes_placed = record {
      counts = length-set v.counts t₀ p₀ ∙ sizes.counts;
      standings = length-set v.standings (slot_of t₀ p₀) now ∙ sizes.standings;
      groups = sizes.groups;
      tallies = sizes.tallies;
    }

  -- the latest, where event n is no such event
  latest_on : (k s : ℕ) (p : ℕ × ℕ) → (Is es k s n → ⊥) → Latest es n k s p → Latest es (suc n) k s p
  latest_on k s p no' (inl a) = inl (
    a.0,
    omega (arith, a.1),
    a.2,
    λ j l m h. elim (cases_lt j n) [ inl b ↦ a.3 j l b h | inr b ↦ let q : j ≡ n = omega arith in no' (subst (Is es k s) q h) ],
    a.4,
  )
  latest_on k s p no' (inr a) = inr (
    λ j l h. elim (cases_lt j n) [ inl b ↦ a.0 j b h | inr b ↦ let q : j ≡ n = omega arith in no' (subst (Is es k s) q h) ],
    a.1,
  )

  -- event n counts nowhere, since it is no read or release
  counted_on : (v : Tables) → ((k s b : ℕ) → Takes k s b → Is es k s n → ⊥) → Counted es n v → Counted es (suc n) v
  counted_on v no' old = record {
    starts = λ k s b h. no_more (old.starts k s b h) (λ x. no' k s b h x.0);
    led = λ k s b h t p l m. no_more (old.led k s b h t p l m) (λ x. no' k s b h x.0);
    taken = λ k s b h t p l m. no_more (old.taken k s b h t p l m) (λ x. no' k s b h x.0);
  }

  -- nothing feeds what is no read and no release
  no_source : ((x : ℕ) → Reads es x n ⊎ Releases es x n → ⊥) → Source es n 255 0
  no_source no' = inr ((λ f h. let g = feeds_ends es f n h in no' g.0 g.1), refl, refl)

  -- the source of a read is the latest write of its variable
  source_read : (x : ℕ) (p : ℕ × ℕ) → Reads es x n → Latest es n 2 x p → Source es n p.0 p.1
  source_read x p r (inl a) = inl (a.0, value x a.2 r a.1 a.3, ap (λ z. z.0) a.4, ap (λ z. z.1) a.4)
  source_read x p r (inr a) = inr (unfed, ap (λ z. z.0) a.1, ap (λ z. z.1) a.1)
    where
      unfed : (f : ℕ) → Feeds es f n → ⊥
      unfed f (value y u q l m) = a.0 f l (subst (λ z. Writes es z f) (agree es 1 y 1 x n q r) u)
      unfed f (hold y u q l m) = clash es 1 x 4 y n (λ z. omega arith) r q

  -- the source of a release is the latest acquire of its lock
  same_acquire : (l f d : ℕ) → Feeds es f n → Acquires es l f → Acquires es l d → d < n → NoneBetween d n (Acquires es l) → f ≡ d
  same_acquire l f d (value y u q k m) a b c o = clash es 2 y 3 l f (λ z. omega arith) u a
  same_acquire l f d (hold y u q k m) a b c o =
      elim (cases_order f d) [
        | inl z ↦ z
        | inr z ↦ elim z [
          | inl g ↦ absurd (m d g c (inl (subst (λ x. Acquires es x d) (agree es 3 l 3 y f a u) b)))
          | inr g ↦ absurd (o f g k a)
        ]
      ]

  source_release : (l : ℕ) (p : ℕ × ℕ) → Releases es l n → Latest es n 3 l p → Source es n p.0 p.1
  source_release l p r (inl a) =
      let f = release_from es fit.sound l n r in
      let q = same_acquire l f.0 a.0 f.1 f.2 a.2 a.1 a.3 in
      inl (a.0, subst (λ z. Feeds es z n) q f.1, ap (λ z. z.0) a.4, ap (λ z. z.1) a.4)
  source_release l p r (inr a) =
      let f = release_from es fit.sound l n r in
      absurd (a.0 f.0 (feeds_later es fit.sound f.0 n f.1) f.2)

  source_take : (b : ℕ) (v : Tables) → Takes e.kind e.subject b → Known es n v
      → Source es n (source_of (groups_in v b).latest).0 (source_of (groups_in v b).latest).1
  source_take b v (inl h) known =
      source_read e.subject (source_of (groups_in v b).latest) (record { noted = near; kind = h.0; subject = refl }) (known 2 e.subject b (inl (refl, h.1, h.2)))
  source_take b v (inr h) known =
      source_release e.subject (source_of (groups_in v b).latest) (record { noted = near; kind = h.0; subject = refl }) (known 3 e.subject b (inr (refl, h.1, h.2)))

  -- Event n is a read or a release of object b, and counts at its own place and at its source's.
  module _ (b : ℕ) (takes : Takes e.kind e.subject b) where
    here : (k s : ℕ) → Takes k s b → Is es k s n
    here k s h = let q = takes_one e.kind e.subject k s b takes h in record { noted = near; kind = q.0; subject = q.1 }

    only : (k s b' : ℕ) → Takes k s b' → Is es k s n → b' ≡ b
    only k s b' h i = takes_same k s b' b h (subst (λ z. Takes k z b) i.subject (subst (λ z. Takes z e.subject b) i.kind takes))

    -- a table that is raised at one entry, and the property that event n has for that entry alone
    raise_count : {A : Type 0} (d : A) (of : A → ℕ) (more : A → A) → ((x : A) → of (more x) ≡ one_more (of x))
        → (P : ℕ → Type 0) (xs : List A) (i j : ℕ) → i < length xs → (j ≡ i → P n) → (P n → j ≡ i)
        → Number P n (of (get_or xs j d)) → Number P (suc n) (of (get_or (changed d more xs i) j d))
    raise_count d of more raises P xs i j l f g old =
        elim (cases_eq j i) [
          | inl q ↦
              let small : of (get_or xs j d) ≤ 2040 = omega (arith, number_le P old, fit.short) in
              subst (Number P (suc n))
              (sym (ap (λ z. of (get_or (changed d more xs i) z d)) q ∙ raised_same d of more raises xs i (of (get_or xs j d)) l (ap (λ z. of (get_or xs z d)) (sym q)) small))
              (counted_more old (f q))
          | inr q ↦ subst (Number P (suc n)) (sym (ap of (changed_other d more xs i j q))) (no_more old (λ x. q (g x)))
        ]

    own_in : cell_of t₀ p₀ b < 98304
    own_in = omega (arith, takes_below e.kind e.subject b takes, thread_few, place_few)

    taken_more : (v : Tables) → Sizes v → Counted es n v → (k s b' : ℕ) → Takes k s b' → (t p : ℕ) → t < 8 → p < 256
        → Number (TakenAt es k s t p) (suc n) (tally_at (with_taken v e b) t p b').taken
    taken_more v sizes old k s b' h t p l m =
        let below = takes_below k s b' h in
        let below₀ = takes_below e.kind e.subject b takes in
        let t-few = thread_few in
        let p-few = place_few in
        raise_count no_tally (λ (x : Tally). x.taken) more_taken (λ x. refl) (TakenAt es k s t p) v.tallies (cell_of t₀ p₀ b) (cell_of t p b')
        (omega (arith, own_in, sizes.tallies))
        (λ q.
        let same-b : b' ≡ b = omega arith in
        let same-t : t₀ ≡ t = omega arith in
        let same-p : p₀ ≡ p = omega arith in
        (here k s (subst (Takes k s) same-b h), same-t, same-p))
        (λ x.
        let same-b = only k s b' h x.0 in
        let same-t : t₀ ≡ t = x.1 in
        let same-p : p₀ ≡ p = x.2 in
        omega arith)
        (old.taken k s b' h t p l m)

    led_kept : (v : Tables) → Sizes v → (t p b' : ℕ) → (tally_at (with_taken v e b) t p b').led ≡ (tally_in v t p b').led
    led_kept v sizes t p b' =
        kept no_tally (λ (x : Tally). x.led) more_taken (λ x. refl) v.tallies (cell_of t₀ p₀ b) (cell_of t p b') (omega (arith, own_in, sizes.tallies))

    module _ (f : ℕ) (feeds : Feeds es f n) (t' p' : ℕ) (own : t' ≡ thread_at es f) (place : p' ≡ place_at es f) where
      led_more : (xs : List Tally) → length xs ≡ 98304 → (k s b' : ℕ) → Takes k s b' → (t p : ℕ) → t < 8 → p < 256
          → Number (LedAt es k s t p) n (tally_at xs t p b').led
          → Number (LedAt es k s t p) (suc n) (tally_at (with_led xs (t', p') b) t p b').led
      led_more xs size k s b' h t p l m old =
          let below = takes_below k s b' h in
          let below₀ = takes_below e.kind e.subject b takes in
          let noted = (feeds_noted es f n feeds).0 in
          let t-few : t' < 8 = omega (arith, fit.few f noted) in
          let p-few : p' < 256 = omega (arith, fit.places f noted) in
          raise_count no_tally (λ (x : Tally). x.led) more_led (λ x. refl) (LedAt es k s t p) xs (cell_of t' p' b) (cell_of t p b') (omega arith)
          (λ q.
          let same-b : b' ≡ b = omega arith in
          let same-t : t' ≡ t = omega arith in
          let same-p : p' ≡ p = omega arith in
          (here k s (subst (Takes k s) same-b h), (f, feeds, sym own ∙ same-t, sym place ∙ same-p)))
          (λ x.
          let same-b = only k s b' h x.0 in
          let one = one_feeder es f x.1.0 n feeds x.1.1 in
          let same-t : t' ≡ t = own ∙ ap (thread_at es) one ∙ x.1.2 in
          let same-p : p' ≡ p = place ∙ ap (place_at es) one ∙ x.1.3 in
          omega arith)
          old

      source_in_tallies : cell_of t' p' b < 98304
      source_in_tallies =
          let noted = (feeds_noted es f n feeds).0 in
          omega (arith, takes_below e.kind e.subject b takes, fit.few f noted, fit.places f noted, own, place)

      counted_led : (v : Tables) → Sizes v → Counted es n v → t' < 8 → Counted es (suc n) (taking v e b (Some (t', p')))
      counted_led v sizes old l₀ =
          let size : length (with_taken v e b) ≡ 98304 = length-set _ _ _ ∙ sizes.tallies in
          let many : (ys : List Tally) → ys ≡ with_led (with_taken v e b) (t', p') b → ys ≡ cond (ltb t' 8) (with_led (with_taken v e b) (t', p') b) (with_taken v e b)
          = λ ys q. q ∙ sym (cond-true (ltb t' 8) _ _ (lt-ltb t' 8 l₀)) in
          let tallies = many (with_led (with_taken v e b) (t', p') b) refl in
          record {
            starts = λ k s b' h.
                subst (λ (xs : List Groups). Number (Starts es k s) (suc n) (get_or xs b' no_groups).starting) (sym (cond-true (ltb t' 8) _ _ (lt-ltb t' 8 l₀)))
                (no_more (old.starts k s b' h) (λ x. x.1 f feeds));
            led = λ k s b' h t p l m.
                subst (λ (xs : List Tally). Number (LedAt es k s t p) (suc n) (tally_at xs t p b').led) tallies
                (led_more (with_taken v e b) size k s b' h t p l m (subst (Number (LedAt es k s t p) n) (sym (led_kept v sizes t p b')) (old.led k s b' h t p l m)));
            taken = λ k s b' h t p l m.
                subst (λ (xs : List Tally). Number (TakenAt es k s t p) (suc n) (tally_at xs t p b').taken) tallies
                (subst (Number (TakenAt es k s t p) (suc n))
                (sym (kept no_tally (λ (x : Tally). x.taken) more_led (λ x. refl) (with_taken v e b) (cell_of t' p' b) (cell_of t p b') (omega (arith, source_in_tallies, size))))
                (taken_more v sizes old k s b' h t p l m));
          }

    -- the starting group
    counted_start : (v : Tables) (source : Option (ℕ × ℕ)) → Sizes v → Counted es n v → ((f : ℕ) → Feeds es f n → ⊥) → is_fed source ≡ false → Counted es (suc n) (taking v e b source)
    counted_start v source sizes old unfed alone =
        let tallies : with_taken v e b ≡ cond (is_fed source) (with_led (with_taken v e b) (source_of source) b) (with_taken v e b)
        = sym (cond-false (is_fed source) _ _ alone) in
        record {
          starts = λ k s b' h.
              subst (λ (xs : List Groups). Number (Starts es k s) (suc n) (get_or xs b' no_groups).starting) (sym (cond-false (is_fed source) _ _ alone))
              (raise_count no_groups (λ (x : Groups). x.starting) more_starting (λ x. refl) (Starts es k s) v.groups b b'
              (omega (arith, sizes.groups, takes_below e.kind e.subject b takes))
              (λ q. (here k s (subst (Takes k s) q h), unfed)) (λ x. only k s b' h x.0) (old.starts k s b' h));
          led = λ k s b' h t p l m.
              subst (λ (xs : List Tally). Number (LedAt es k s t p) (suc n) (tally_at xs t p b').led) tallies
              (subst (Number (LedAt es k s t p) (suc n)) (sym (led_kept v sizes t p b')) (no_more (old.led k s b' h t p l m) (λ x. unfed x.1.0 x.1.1)));
          taken = λ k s b' h t p l m.
              subst (λ (xs : List Tally). Number (TakenAt es k s t p) (suc n) (tally_at xs t p b').taken) tallies (taken_more v sizes old k s b' h t p l m);
        }

    counted_take : (v : Tables) (source : Option (ℕ × ℕ)) → Sizes v → Counted es n v → Source es n (source_of source).0 (source_of source).1 → Counted es (suc n) (taking v e b source)
    counted_take v (Some s) sizes old (inl a) =
        counted_led a.0 a.1 s.0 s.1 a.2 a.3 v sizes old (omega (arith, fit.few a.0 (feeds_noted es a.0 n a.1).0, a.2))
    counted_take v (Some s) sizes old (inr a) = counted_start v (Some s) sizes old a.0 (le-ltb s.0 8 (omega (arith, a.1)))
    counted_take v None sizes old (inl a) = absurd (omega (arith, fit.few a.0 (feeds_noted es a.0 n a.1).0, a.2))
    counted_take v None sizes old (inr a) = counted_start v None sizes old a.0 refl

  either : {A : Type 0} (c : Bool) (xs ys : List A) (m : ℕ) → length xs ≡ m → length ys ≡ m → length (cond c xs ys) ≡ m
  either true xs ys m h g = h
  either false xs ys m h g = g

  sizes_taking : (v : Tables) (b : ℕ) (source : Option (ℕ × ℕ)) → Sizes v → Sizes (taking v e b source)
  sizes_taking v b source sizes =
      let size : length (with_taken v e b) ≡ 98304 = length-set _ _ _ ∙ sizes.tallies in
      record {
        counts = sizes.counts;
        standings = sizes.standings;
        groups = either (is_fed source) _ _ 48 sizes.groups (length-set _ _ _ ∙ sizes.groups);
        tallies = either (is_fed source) _ _ 98304 (length-set _ _ _ ∙ size) size;
      }

  -- to take leaves each latest as it is
  latest_taking : (v : Tables) (b : ℕ) (source : Option (ℕ × ℕ)) → Sizes v → b < 48 → (b' : ℕ) → (groups_in (taking v e b source) b').latest ≡ (groups_in v b').latest
  latest_taking v b source sizes l b' =
      elim (cases_Bool (is_fed source)) [
        | inl q ↦ ap (λ (xs : List Groups). (get_or xs b' no_groups).latest) (cond-true (is_fed source) _ _ q)
        | inr q ↦
            ap (λ (xs : List Groups). (get_or xs b' no_groups).latest) (cond-false (is_fed source) _ _ q) ∙ same
      ]
    where
      same : (get_or (changed no_groups more_starting v.groups b) b' no_groups).latest ≡ (get_or v.groups b' no_groups).latest
      same =
          elim (cases_eq b' b) [
            | inl q ↦
                subst (λ z. (get_or (changed no_groups more_starting v.groups b) z no_groups).latest ≡ (get_or v.groups z no_groups).latest) (sym q)
                (ap (λ (x : Groups). x.latest) (get_or-set_same v.groups b (more_starting (get_or v.groups b no_groups)) no_groups (omega (arith, sizes.groups))))
            | inr q ↦ ap (λ (x : Groups). x.latest) (changed_other no_groups more_starting v.groups b b' q)
          ]

  -- a write or an acquire of object b is the latest
  known_lead : (v : Tables) (b : ℕ) → LeadsOf e.kind e.subject b → Sizes v → Known es n v → Known es (suc n) (leading v e b)
  known_lead v b leads sizes known k s b' h =
      let last : Groups = record { latest = Some (t₀, p₀); starting = (groups_in v b).starting } in
      elim (cases_eq b' b) [
        | inl q ↦
            let same = leads_one e.kind e.subject k s b leads (subst (LeadsOf k s) q h) in
            inl (
              n,
              omega arith,
              record { noted = near; kind = same.0; subject = same.1 },
              λ j l m x. omega arith,
              ap (λ z. source_of (get_or (set v.groups b last) z no_groups).latest) q
                  ∙ ap (λ (x : Groups). source_of x.latest) (get_or-set_same v.groups b last no_groups (omega (arith, sizes.groups, leads_below e.kind e.subject b leads))),
            )
        | inr q ↦
            subst (λ (x : Groups). Latest es (suc n) k s (source_of x.latest)) (sym (get_or-set_other v.groups b b' last no_groups q))
            (latest_on k s (source_of (groups_in v b').latest)
            (λ i. q (leads_same k s b' b h (subst (λ z. LeadsOf k z b) i.subject (subst (λ z. LeadsOf z e.subject b) i.kind leads))))
            (known k s b' h))
      ]

  -- what a lead does not change
  starting_lead : (v : Tables) (b : ℕ) → b < 48 → Sizes v → (b' : ℕ) → (groups_in (leading v e b) b').starting ≡ (groups_in v b').starting
  starting_lead v b l sizes b' =
      kept no_groups (λ (x : Groups). x.starting) (λ x. record { latest = Some (t₀, p₀); starting = x.starting }) (λ x. refl) v.groups b b' (omega (arith, sizes.groups))

  -- One more event.
  more : (v : Tables) (r : Role) → RoleOf e.kind e.subject r → Filled es n v → Filled es (suc n) (entered v e r)
  more v (Take o) role f =
      let b : ℕ = o.number in
      let source : Option (ℕ × ℕ) = (groups_in v b).latest in
      let from = source_take b v role.1 f.known in
      let w : Tables = taking v e b source in
      let sizes = sizes_taking v b source f.sizes in
      let old : Placed es n w = record { counts = f.placed_so.counts; events = f.placed_so.events; sources = f.placed_so.sources } in
      let counted = counted_take b role.1 v source f.sizes f.counted from in
      record {
        sizes = sizes_placed w sizes source from old;
        placed_so = placed_more w sizes source from old;
        known = λ k s b' h.
            subst (λ z. Latest es (suc n) k s (source_of z)) (sym (latest_taking v b source f.sizes (takes_below e.kind e.subject b role.1) b'))
            (latest_on k s _ (λ i. take_lead k s b s b' (subst (λ z. Takes k z b) i.subject (subst (λ z. Takes z e.subject b) i.kind role.1)) h) (f.known k s b' h));
        counted = record { starts = counted.starts; led = counted.led; taken = counted.taken };
      }
  more v (Lead o) role f =
      let b : ℕ = o.number in
      let clear : (x : ℕ) → Reads es x n ⊎ Releases es x n → ⊥
      = λ x i. elim i [
        | inl r ↦ elim role.1 [ inl g ↦ omega (arith, r.kind) | inr g ↦ omega (arith, r.kind) ]
        | inr r ↦ elim role.1 [ inl g ↦ omega (arith, r.kind) | inr g ↦ omega (arith, r.kind) ]
      ] in
      let from = no_source clear in
      let w : Tables = leading v e b in
      let sizes : Sizes w = record { counts = f.sizes.counts; standings = f.sizes.standings; groups = length-set _ _ _ ∙ f.sizes.groups; tallies = f.sizes.tallies } in
      let old : Placed es n w = record { counts = f.placed_so.counts; events = f.placed_so.events; sources = f.placed_so.sources } in
      let still : Counted es n w = record {
        starts = λ k s b' h. subst (Number (Starts es k s) n) (sym (starting_lead v b (leads_below e.kind e.subject b role.1) f.sizes b')) (f.counted.starts k s b' h);
        led = f.counted.led;
        taken = f.counted.taken;
      } in
      let counted = counted_on w (λ k s b' h i. take_lead k s b' s b h (subst (λ z. LeadsOf k z b) i.subject (subst (λ z. LeadsOf z e.subject b) i.kind role.1))) still in
      record {
        sizes = sizes_placed w sizes None from old;
        placed_so = placed_more w sizes None from old;
        known = known_lead v b role.1 f.sizes f.known;
        counted = record { starts = counted.starts; led = counted.led; taken = counted.taken };
      }
  more v Apart role f =
      let reads : (x : ℕ) → Reads es x n → ⊥ = λ x r. (role e.subject).0 (inl (r.kind, fit.variables n near (inl r.kind), refl)) in
      let releases : (x : ℕ) → Releases es x n → ⊥ = λ x r. (role (32 + e.subject)).0 (inr (r.kind, fit.locks n near (inr r.kind), refl)) in
      let from = no_source (λ x i. elim i [ inl r ↦ reads x r | inr r ↦ releases x r ]) in
      let counted = counted_on v (λ k s b h i. (role b).0 (subst (λ z. Takes z e.subject b) (sym i.kind) (subst (λ z. Takes k z b) (sym i.subject) h))) f.counted in
      record {
        sizes = sizes_placed v f.sizes None from f.placed_so;
        placed_so = placed_more v f.sizes None from f.placed_so;
        known = λ k s b h. latest_on k s _ (λ i. (role b).1 (subst (λ z. LeadsOf z e.subject b) (sym i.kind) (subst (λ z. LeadsOf k z b) (sym i.subject) h))) (f.known k s b h);
        counted = record { starts = counted.starts; led = counted.led; taken = counted.taken };
      }

pub filled_more : (es : List Event) → Fit es → (n : ℕ) → n < length es → (v : Tables) (r : Role) → RoleOf (get_or es n blank).kind (get_or es n blank).subject r
    → Filled es n v → Filled es (suc n) (entered v (get_or es n blank) r)
filled_more es fit n near v r role f = more es fit n near v r role f

none_counted : {A : Type 0} (d : A) (of : A → ℕ) → of d ≡ 0 → (P : ℕ → Type 0) (xs : List A) (m i : ℕ) → xs ≡ replicate m d → i < m → Number P 0 (of (get_or xs i d))
none_counted d of zero P xs m i e l =
    subst (Number P 0) (sym (ap (λ z. of (get_or z i d)) e ∙ ap of (get_or-replicate m i d d l) ∙ zero)) none

pub filled_none : (es : List Event) → Filled es 0 blank_tables
filled_none es = record {
  sizes = record {
    counts = length-replicate {A = ℕ} 8 0;
    standings = length-replicate {A = Standing} 2048 (record { event = blank; source = None });
    groups = length-replicate {A = Groups} 48 no_groups;
    tallies = length-replicate {A = Tally} 98304 no_tally;
  };
  placed_so = record {
    counts = λ t l. get_or-replicate {A = ℕ} 8 t 0 0 l;
    events = λ i l. absurd (omega arith);
    sources = λ i l. absurd (omega arith);
  };
  known = λ k s b h. inr ((λ i l. absurd (omega arith)), ap (λ (x : Groups). source_of x.latest) (get_or-replicate {A = Groups} 48 b no_groups no_groups (leads_below k s b h)));
  counted = record {
    starts = λ k s b h. none_counted no_groups (λ (x : Groups). x.starting) refl _ _ 48 b refl (takes_below k s b h);
    led = λ k s b h t p l m. none_counted no_tally (λ (x : Tally). x.led) refl _ _ 98304 (cell_of t p b) refl (let q = takes_below k s b h in omega arith);
    taken = λ k s b h t p l m. none_counted no_tally (λ (x : Tally). x.taken) refl _ _ 98304 (cell_of t p b) refl (let q = takes_below k s b h in omega arith);
  };
}
