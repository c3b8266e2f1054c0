-- The look-ups answer what may follow.
use Rattle.std.proofs.Common.{◌≡◌, ℕ, suc, ◌+◌, ◌<◌, ◌≤◌, Bool, true, false, ◌⊎◌, List, length, get_or, sym, refl, ap, ◌∙◌, subst, inl, inr, arith}
use Rattle.events.specs.declared.event.Event.{Event}
use Rattle.order.specs.Trace.{blank, thread_at, place_at, kind_at, subject_at, Writes, Acquires}
use Rattle.order.specs.Cuts.{Cut, In, MayFollow}
use Rattle.order.specs.Sound.{count}
use Rattle.order.specs.Maps.{Source}
use Rattle.order.specs.Reached.{cut_of}
use Rattle.order.specs.Waiting.{HasNext, Missing, Blocked, Waiting, Supplied}
use Rattle.order.proofs.Places.{count_own, count_up, count_met}
use Rattle.order.proofs.Decided.{feeds_noted}
use Rattle.order.proofs.Fair.{fair}
use Rattle.order.proofs.Following.{not_yet, missing_unfed, unfed_missing, may_follow_lem, source_unfed, plain_alone, blocked_write, blocked_acquire, write_blocked, acquire_blocked}
use Rattle.std.proofs.lemmas.Bool.{eqb-true, eqb-false, not-true, not-false, false≢true}
use Rattle.follow.specs.declared.role.Role.{Role}
use Rattle.follow.specs.declared.role.Role.TheVariants.{Lead, Take, Apart}
use Rattle.follow.specs.declared.tables.Standing.{Standing}
use Rattle.follow.specs.declared.tables.Tables.{Tables}
use Rattle.follow.specs.Balance.{Reached, Follower, over_threads}
use Rattle.follow.specs.Roles.{Takes, LeadsOf, RoleOf}
use Rattle.follow.specs.Made.{standing_in, groups_in, source_of, MadeOf}
use Rattle.follow.specs.Looking.{HasSource, led_in, taken_in, unbalanced, BlockedAs, BlockedBy}
use Rattle.follow.proofs.Balance.{none_waits, one_waits}

module _ (es : List Event) (v : Tables) (made : MadeOf es v) (cut : List ℕ) where
  abbrev c : Cut
  c = cut_of cut

  -- a thread's next event is there as long as its count is not reached
  pub next_of : (t : ℕ) → t < 8 → get_or cut t 0 < get_or v.counts t 0 → (i : ℕ) × HasNext es c t i
  next_of t few l =
      let r = count_met es t (get_or cut t 0) (length es) (omega (arith, made.counts t few)) in
      (r.0, record { noted = r.1; own = r.2; place = made.sound.places r.0 r.1 ∙ ap suc (ap (λ u. count es u r.0) r.2 ∙ r.3) })

  pub none_next : (t : ℕ) → t < 8 → get_or v.counts t 0 ≤ get_or cut t 0 → (i : ℕ) → HasNext es c t i → ⊥
  none_next t few l i n =
      let p : place_at es i ≡ suc (count es t i) = made.sound.places i n.noted ∙ ap (λ u. suc (count es u i)) n.own in
      omega (arith, n.place, count_own es t i n.own, count_up es t (suc i) (length es) n.noted, made.counts t few)

  pub no_thread : (t : ℕ) → 8 ≤ t → (i : ℕ) → HasNext es c t i → ⊥
  no_thread t l i n = omega (arith, n.own, made.few i n.noted)

  module _ (reached : Reached es c) (t i : ℕ) (next : HasNext es c t i) where
    abbrev standing : Standing
    standing = standing_in v t (suc (c t))

    here : standing_in v (thread_at es i) (place_at es i) ≡ standing
    here = ap (λ z. standing_in v z (place_at es i)) next.own ∙ ap (standing_in v t) next.place

    pub event_here : standing.event ≡ get_or es i blank
    event_here = ap (λ (x : Standing). x.event) (sym here) ∙ made.events i next.noted

    abbrev SourceIs : ℕ × ℕ → Type 0
    SourceIs p = Source es i p.0 p.1

    abbrev from : ℕ × ℕ
    from = source_of standing.source

    source_here : SourceIs from
    source_here = subst (λ (x : Standing). SourceIs (source_of x.source)) here (made.sources i next.noted)

    few_255 : (j : ℕ) → j < length es → thread_at es j < 255
    few_255 j l = omega (arith, made.few j l)

    supplied_by_lem : (p : ℕ × ℕ) → SourceIs p → (8 ≤ p.0) ⊎ (p.1 ≤ get_or cut p.0 0) → Supplied c p.0 p.1
    supplied_by_lem p (inl s) (inl l) = absurd (omega (arith, s.2, made.few s.0 (feeds_noted es s.0 i s.1).0))
    supplied_by_lem p (inl s) (inr l) = inr l
    supplied_by_lem p (inr s) h = inl s.1

    -- the source decides whether an event before is missing
    pub none_missing : HasSource cut standing.source → Missing es c i → ⊥
    none_missing h m =
        (source_unfed es made.sound few_255 c i _ _ source_here).0 (supplied_by_lem from source_here h)
        (missing_unfed es c t i next (fair es made.sound reached.1).closed m)

    missing_by : (p : ℕ × ℕ) → SourceIs p → ((8 ≤ p.0) ⊎ (p.1 ≤ get_or cut p.0 0) → ⊥) → Missing es c i
    missing_by p (inl s) n =
        unfed_missing es c t i next
        (s.0, s.1, λ h. let q : c p.0 ≡ c (thread_at es s.0) = ap c s.2 in n (inr (omega (arith, s.3))))
    missing_by p (inr s) n = absurd (n (inl (omega (arith, s.1))))

    pub one_missing : (HasSource cut standing.source → ⊥) → Missing es c i
    one_missing n = missing_by from source_here n

    abbrev Sums : ℕ → Type 0
    Sums b = (groups_in v b).starting + over_threads (led_in v cut b) 8 ≡ over_threads (taken_in v cut b) 8

    unbalanced_true : (b : ℕ) → unbalanced v cut b ≡ true → Sums b → ⊥
    unbalanced_true b h = eqb-false _ _ (not-true _ h)

    unbalanced_false : (b : ℕ) → unbalanced v cut b ≡ false → Sums b
    unbalanced_false b h = eqb-true _ _ (not-false _ h)

    module _ (k s b : ℕ) (follower : Follower k) (takes : Takes k s b) (small : (u : ℕ) → u < 8 → get_or cut u 0 < 256) where
      some_waits : (Sums b → ⊥) → (j : ℕ) × Waiting es c k s j
      some_waits =
          one_waits es made.sound made.few c (fair es made.sound reached.1).closed k s follower (groups_in v b).starting (made.starts k s b takes)
          (led_in v cut b) (taken_in v cut b) (λ u l. made.led k s b takes u (get_or cut u 0) l (small u l)) (λ u l. made.taken k s b takes u (get_or cut u 0) l (small u l))

      nothing_waits : Sums b → (j : ℕ) → Waiting es c k s j → ⊥
      nothing_waits =
          none_waits es made.sound made.few c (fair es made.sound reached.1).closed k s follower (groups_in v b).starting (made.starts k s b takes)
          (led_in v cut b) (taken_in v cut b) (λ u l. made.led k s b takes u (get_or cut u 0) l (small u l)) (λ u l. made.taken k s b takes u (get_or cut u 0) l (small u l))

    out : In es c i → ⊥
    out = not_yet es c t i next

    module _ (full : Missing es c i → ⊥) where
      -- the balance decides whether a write or an acquire is blocked
      lead_blocked : (b : ℕ) → LeadsOf (kind_at es i) (subject_at es i) b → ((u : ℕ) → u < 8 → get_or cut u 0 < 256) → (Sums b → ⊥) → Blocked es c i
      lead_blocked b (inl h) small n =
          let x : ℕ = subject_at es i in
          let w : Writes es x i = record { noted = next.noted; kind = h.0; subject = refl } in
          let j = some_waits 1 x b (inl refl) (inl (refl, h.1, h.2)) small n in
          write_blocked es made.sound c (fair es made.sound reached.1) i next.noted out x j.0 w j.1
      lead_blocked b (inr h) small n =
          let x : ℕ = subject_at es i in
          let w : Acquires es x i = record { noted = next.noted; kind = h.0; subject = refl } in
          let j = some_waits 4 x b (inr refl) (inr (refl, h.1, h.2)) small n in
          acquire_blocked es made.sound c (fair es made.sound reached.1) i next.noted out x j.0 w j.1

      lead_free : (b : ℕ) → LeadsOf (kind_at es i) (subject_at es i) b → ((u : ℕ) → u < 8 → get_or cut u 0 < 256) → Sums b → Blocked es c i → ⊥
      lead_free b (inl h) small n g =
          let x : ℕ = subject_at es i in
          let w : Writes es x i = record { noted = next.noted; kind = h.0; subject = refl } in
          let j = blocked_write es made.sound c (fair es made.sound reached.1) i next.noted out x w g in
          nothing_waits 1 x b (inl refl) (inl (refl, h.1, h.2)) small n j.0 j.1
      lead_free b (inr h) small n g =
          let x : ℕ = subject_at es i in
          let w : Acquires es x i = record { noted = next.noted; kind = h.0; subject = refl } in
          let j = blocked_acquire es made.sound c (fair es made.sound reached.1) i next.noted out x w g in
          nothing_waits 4 x b (inr refl) (inr (refl, h.1, h.2)) small n j.0 j.1

      plain_free : (kind_at es i ≡ 2 → ⊥) → (kind_at es i ≡ 3 → ⊥) → Blocked es c i → ⊥
      plain_free a b = plain_alone es made.sound c (fair es made.sound reached.1) i next.noted out full a b

      not_two : (b : ℕ) → Takes (kind_at es i) (subject_at es i) b → (kind_at es i ≡ 2 → ⊥) × (kind_at es i ≡ 3 → ⊥)
      not_two b (inl h) = ((λ z. omega arith), (λ z. omega arith))
      not_two b (inr h) = ((λ z. omega arith), (λ z. omega arith))

      free_as : (role : Role) → RoleOf (kind_at es i) (subject_at es i) role → (r : Bool) → BlockedAs v cut role r → r ≡ false → Blocked es c i → ⊥
      free_as (Lead o) role r h q = lead_free o.number role.1 h.1 (unbalanced_false o.number (sym h.0 ∙ q))
      free_as (Take o) role r h q = let n = not_two o.number role.1 in plain_free n.0 n.1
      free_as Apart role r h q =
          plain_free
          (λ z. (role (subject_at es i)).1 (inl (z, made.variables i next.noted z, refl)))
          (λ z. (role (32 + subject_at es i)).1 (inr (z, made.locks i next.noted z, refl)))

      blocked_as_lem : (role : Role) → RoleOf (kind_at es i) (subject_at es i) role → (r : Bool) → BlockedAs v cut role r → r ≡ true → Blocked es c i
      blocked_as_lem (Lead o) role r h q = lead_blocked o.number role.1 h.1 (unbalanced_true o.number (sym h.0 ∙ q))
      blocked_as_lem (Take o) role r h q = absurd (let z : false ≡ true = sym h ∙ q in false≢true z)
      blocked_as_lem Apart role r h q = absurd (let z : false ≡ true = sym h ∙ q in false≢true z)

      pub is_free : (e : Event) → e ≡ get_or es i blank → (r : Bool) → BlockedBy v cut e r → r ≡ false → Blocked es c i → ⊥
      is_free e q r h =
          let role : RoleOf (kind_at es i) (subject_at es i) h.0 = subst (λ (z : Event). RoleOf z.kind z.subject h.0) q h.1 in
          free_as h.0 role r h.2

      pub is_blocked : (e : Event) → e ≡ get_or es i blank → (r : Bool) → BlockedBy v cut e r → r ≡ true → Blocked es c i
      is_blocked e q r h =
          let role : RoleOf (kind_at es i) (subject_at es i) h.0 = subst (λ (z : Event). RoleOf z.kind z.subject h.0) q h.1 in
          blocked_as_lem h.0 role r h.2

      pub follows : (Blocked es c i → ⊥) → MayFollow es c i
      follows = may_follow_lem es c t i next full
