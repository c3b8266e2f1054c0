-- What the tables answer, as a function of the cut and the thread, is right at every cut that a path reaches.
use Rattle.std.proofs.Common.{◌≡◌, ℕ, suc, ◌+◌, ◌<◌, ◌≤◌, Bool, true, false, cond, ◌&&◌, ◌||◌, eqb, ltb, leb, Option, List, get_or, Ok, Err, Decides, sym, refl, ap, ◌∙◌, inl, inr, arith}
use Rattle.std.proofs.lemmas.Bool.{eqb-true, eq-eqb, ltb-true, lt-ltb, leb-true, leb-false, le-leb, lt-leb, and_parts, and_from, or_from, cond-true, cond-false, both_ways, cases_Bool}
use Rattle.std.proofs.lemmas.Bool.Decides.{same_from_decides, not_from_Decides, Decides-or}
use Rattle.events.specs.declared.event.Event.{Event}
use Rattle.order.specs.Trace.{blank}
use Rattle.order.specs.Waiting.{HasNext, Missing}
use Rattle.order.specs.Reached.{cut_of}
use Rattle.follow.specs.declared.no_next.NoNext.TheVariants as because
use Rattle.follow.specs.declared.role.Role.{Role}
use Rattle.follow.specs.declared.role.Role.TheVariants.{Lead, Take, Apart}
use Rattle.follow.specs.declared.tables.Standing.{Standing}
use Rattle.follow.specs.declared.tables.Tables.{Tables}
use Rattle.follow.specs.Balance.{Reached}
use Rattle.follow.specs.Answers.{Answers}
use Rattle.follow.specs.Roles.{RoleOf, Takes, LeadsOf}
use Rattle.follow.specs.Looking.{HasSource, BlockedAs, BlockedBy, unbalanced, blocked_for, supplied_by, told_of, next_in}
use Rattle.follow.specs.Made.{standing_in, source_of, MadeOf}
use Rattle.follow.proofs.Looking.{next_of, none_next, no_thread, event_here, none_missing, one_missing, is_free, is_blocked, follows}

-- whether an event of kind k and subject s is blocked
module _ (v : Tables) (cut : List ℕ) (k s : ℕ) where
  parts : (j n : ℕ) → (eqb k j && ltb s n) ≡ true → (k ≡ j) × (s < n)
  parts j n h = let p = and_parts (eqb k j) (ltb s n) h in (eqb-true k j p.0, ltb-true s n p.1)

  holds : (j n : ℕ) → k ≡ j → s < n → (eqb k j && ltb s n) ≡ true
  holds j n e l = and_from (eqb k j) (ltb s n) (eq-eqb k j e) (lt-ltb s n l)

  not_both : (j n : ℕ) → (eqb k j && ltb s n) ≡ false → k ≡ j → s < n → ⊥
  not_both j n h e l = both_ways (eqb k j && ltb s n) h (holds j n e l)

  fails : (j n : ℕ) → (k ≡ j → s < n → ⊥) → (eqb k j && ltb s n) ≡ false
  fails j n no' = elim (cases_Bool (eqb k j && ltb s n)) [ inl q ↦ absurd (no' (parts j n q).0 (parts j n q).1) | inr q ↦ q ]

  as_write : k ≡ 2 → s < 32 → blocked_for v cut k s ≡ unbalanced v cut s
  as_write e l = cond-true (eqb k 2 && ltb s 32) _ _ (holds 2 32 e l)

  as_acquire : k ≡ 3 → s < 16 → blocked_for v cut k s ≡ unbalanced v cut (32 + s)
  as_acquire e l = cond-false (eqb k 2 && ltb s 32) _ _ (fails 2 32 (λ z m. omega arith)) ∙ cond-true (eqb k 3 && ltb s 16) _ _ (holds 3 16 e l)

  as_neither : (k ≡ 2 → s < 32 → ⊥) → (k ≡ 3 → s < 16 → ⊥) → blocked_for v cut k s ≡ false
  as_neither a b = cond-false (eqb k 2 && ltb s 32) _ _ (fails 2 32 a) ∙ cond-false (eqb k 3 && ltb s 16) _ _ (fails 3 16 b)

  takes_neither : (b : ℕ) → Takes k s b → blocked_for v cut k s ≡ false
  takes_neither b (inl h) = as_neither (λ e l. omega arith) (λ e l. omega arith)
  takes_neither b (inr h) = as_neither (λ e l. omega arith) (λ e l. omega arith)

  leads_value : (b : ℕ) → LeadsOf k s b → blocked_for v cut k s ≡ unbalanced v cut b
  leads_value b (inl h) = as_write h.0 h.1 ∙ sym (ap (unbalanced v cut) h.2)
  leads_value b (inr h) = as_acquire h.0 h.1 ∙ sym (ap (unbalanced v cut) h.2)

  role_value : (role : Role) (r : Bool) → RoleOf k s role → BlockedAs v cut role r → r ≡ blocked_for v cut k s
  role_value (Lead o) r h g = g.0 ∙ sym (leads_value o.number h.1)
  role_value (Take o) r h g = g ∙ sym (takes_neither o.number h.1)
  role_value Apart r h g = g ∙ sym (as_neither (λ e l. (h s).1 (inl (e, l, refl))) (λ e l. (h (32 + s)).1 (inr (e, l, refl))))

  abbrev Role_of_it : Type 0
  Role_of_it = (role : Role) × RoleOf k s role × BlockedAs v cut role (blocked_for v cut k s)

  module _ (small : (u : ℕ) → u < 8 → get_or cut u 0 < 256) where
    lead : (b : ℕ) → b < 48 → LeadsOf k s b → Role_of_it
    lead b l h = (Lead (record { number = b; within = l }), (l, h), (leads_value b h, small))

    take : (b : ℕ) → b < 48 → Takes k s b → Role_of_it
    take b l h = (Take (record { number = b; within = l }), (l, h), takes_neither b h)

    apart : (eqb k 1 && ltb s 32) ≡ false → (eqb k 2 && ltb s 32) ≡ false → (eqb k 3 && ltb s 16) ≡ false → (eqb k 4 && ltb s 16) ≡ false → Role_of_it
    apart p q r z = (Apart, (λ b. (takes b, leads b)), as_neither (not_both 2 32 q) (not_both 3 16 r))
      where
        takes : (b : ℕ) → Takes k s b → ⊥
        takes b (inl h) = not_both 1 32 p h.0 h.1
        takes b (inr h) = not_both 4 16 z h.0 h.1

        leads : (b : ℕ) → LeadsOf k s b → ⊥
        leads b (inl h) = not_both 2 32 q h.0 h.1
        leads b (inr h) = not_both 3 16 r h.0 h.1

    chosen : (a b c d : Bool) → (eqb k 1 && ltb s 32) ≡ a → (eqb k 2 && ltb s 32) ≡ b → (eqb k 3 && ltb s 16) ≡ c → (eqb k 4 && ltb s 16) ≡ d → Role_of_it
    chosen true b c d p q r z = let h = parts 1 32 p in take s (omega (arith, h.1)) (inl (h.0, h.1, refl))
    chosen false true c d p q r z = let h = parts 2 32 q in lead s (omega (arith, h.1)) (inl (h.0, h.1, refl))
    chosen false false true d p q r z = let h = parts 3 16 r in lead (32 + s) (omega (arith, h.1)) (inr (h.0, h.1, refl))
    chosen false false false true p q r z = let h = parts 4 16 z in take (32 + s) (omega (arith, h.1)) (inr (h.0, h.1, refl))
    chosen false false false false p q r z = apart p q r z

    some_role : Role_of_it
    some_role = chosen _ _ _ _ refl refl refl refl

decides_leb : (a b : ℕ) → Decides (leb a b) (a ≤ b)
decides_leb a b = (leb-true a b, le-leb a b)

pub decides_supplied : (cut : List ℕ) (source : Option (ℕ × ℕ)) → Decides (supplied_by cut source) (HasSource cut source)
decides_supplied cut source =
    let from : ℕ × ℕ = source_of source in
    Decides-or (leb 8 from.0) (leb from.1 (get_or cut from.0 0)) (decides_leb 8 from.0) (decides_leb from.1 (get_or cut from.0 0))

module _ (v : Tables) (cut : List ℕ) where
  pub blocked_value : (e : Event) (r : Bool) → BlockedBy v cut e r → r ≡ blocked_for v cut e.kind e.subject
  blocked_value e r h = role_value v cut e.kind e.subject h.0 r h.1 h.2

  module _ (t : ℕ) (standing : Standing) (is : standing ≡ standing_in v t (suc (get_or cut t 0))) (few : t < 8) (more : get_or cut t 0 < get_or v.counts t 0) where
    abbrev source : Option (ℕ × ℕ)
    source = standing.source

    abbrev event : Event
    event = standing.event

    told_value : next_in v cut t ≡ told_of v cut source event
    told_value =
        cond-false (leb 8 t || leb (get_or v.counts t 0) (get_or cut t 0)) _ _
        (or_from (leb 8 t) (leb (get_or v.counts t 0) (get_or cut t 0)) (lt-leb 8 t few) (lt-leb (get_or v.counts t 0) (get_or cut t 0) more))
        ∙ ap (λ (x : Standing). told_of v cut x.source x.event) (sym is)

    module _ (s : Bool) (supplied : Decides s (HasSource cut source)) where
      supplied_value : supplied_by cut source ≡ s
      supplied_value = same_from_decides (supplied_by cut source) s (decides_supplied cut source) supplied

      module _ (r : Bool) (blocked : BlockedBy v cut event r) (has : s ≡ true) where
        pub blocked_next : r ≡ true → (Err because.Blocked) ≡ next_in v cut t
        blocked_next h =
            sym (told_value ∙ cond-true (supplied_by cut source) _ _ (supplied_value ∙ has) ∙ cond-true (blocked_for v cut event.kind event.subject) _ _ (sym (blocked_value event r blocked) ∙ h))

        pub free_next : r ≡ false → Ok event ≡ next_in v cut t
        free_next h =
            sym (told_value ∙ cond-true (supplied_by cut source) _ _ (supplied_value ∙ has) ∙ cond-false (blocked_for v cut event.kind event.subject) _ _ (sym (blocked_value event r blocked) ∙ h))

module _ (es : List Event) (v : Tables) (made : MadeOf es v) (cut : List ℕ) (reached : Reached es (cut_of cut))
    (small : (u : ℕ) → u < 8 → get_or cut u 0 < 256) (t : ℕ) where
  module _ (few : t < 8) (more : get_or cut t 0 < get_or v.counts t 0) where
    abbrev standing : Standing
    standing = standing_in v t (suc (get_or cut t 0))

    abbrev e : Event
    e = standing.event

    next : (i : ℕ) × HasNext es (cut_of cut) t i
    next = next_of es v made cut t few more

    full : HasSource cut standing.source → Missing es (cut_of cut) next.0 → ⊥
    full has = none_missing es v made cut reached t next.0 next.1 has

    event_is : e ≡ get_or es next.0 blank
    event_is = event_here es v made cut reached t next.0 next.1

    blocked_by : BlockedBy v cut e (blocked_for v cut e.kind e.subject)
    blocked_by = some_role v cut e.kind e.subject small

    told_right : (s r : Bool) → supplied_by cut standing.source ≡ s → blocked_for v cut e.kind e.subject ≡ r
        → Answers es (cut_of cut) t (cond s (cond r (Err because.Blocked) (Ok e)) (Err because.Missing))
    told_right false r p q = (
      next.0,
      next.1,
      one_missing es v made cut reached t next.0 next.1 (not_from_Decides _ (decides_supplied cut standing.source) p),
    )
    told_right true true p q =
        let has = (decides_supplied cut standing.source).0 p in
        (next.0, next.1, full has, is_blocked es v made cut reached t next.0 next.1 (full has) e event_is _ blocked_by q)
    told_right true false p q =
        let has = (decides_supplied cut standing.source).0 p in (
          next.0,
          follows es v made cut reached t next.0 next.1 (full has) (is_free es v made cut reached t next.0 next.1 (full has) e event_is _ blocked_by q),
          next.1.own,
          event_is,
        )

  answers_by : (a b : Bool) → leb 8 t ≡ a → leb (get_or v.counts t 0) (get_or cut t 0) ≡ b
      → Answers es (cut_of cut) t (cond (a || b) (Err because.Done) (told_of v cut (standing_in v t (suc (get_or cut t 0))).source (standing_in v t (suc (get_or cut t 0))).event))
  answers_by true b p q = no_thread es v made cut t (leb-true 8 t p)
  answers_by false true p q = none_next es v made cut t (leb-false 8 t p) (leb-true (get_or v.counts t 0) (get_or cut t 0) q)
  answers_by false false p q = told_right (leb-false 8 t p) (leb-false (get_or v.counts t 0) (get_or cut t 0) q) _ _ refl refl

  pub answers_right : Answers es (cut_of cut) t (next_in v cut t)
  answers_right = answers_by _ _ refl refl
