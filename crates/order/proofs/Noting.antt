-- A noted list, event by event: what noting makes sure of.
use Rattle.std.proofs.Common.{◌≡◌, ℕ, zero, suc, ◌<◌, ◌≤◌, Bool, true, false, cond, not, ◌&&◌, eqb, ltb, ◌⊎◌, List, [], ◌∷◌, ◌++◌, length, get_or, take, ℤ, pos, Some, None, Decides, Option, sym, refl, ap, ◌∙◌, subst, inl, inr, add-one, arith}
use lib.Signed.{lt_z}
use Rattle.std.proofs.lemmas.List.{take_all, take_at, take-append-le, take_more, length_push, length-take-le, get_or_append_left, get_or_push}
use Rattle.std.proofs.lemmas.Int.{ints}
use Rattle.std.proofs.lemmas.Bool.{cases_lt, cases_Bool, eq-eqb, eqb-true, ltb-false, leb-false, lt-ltb, and_parts, not-true, not-false, or_parts}
use Rattle.std.proofs.lemmas.Bool.Decides.{Decides-eqb, Decides-like, Decides-and}
use Rattle.events.specs.declared.event.Action.{Action}
use Rattle.events.specs.declared.event.Event.{Event}
use Rattle.events.specs.declared.lock.Lock.{Lock}
use Rattle.events.specs.declared.lock.Lock.TheVariants.{Free, Held}
use Rattle.events.specs.declared.refusal.Refusal.{Refusal}
use Rattle.events.specs.declared.refusal.OpenRefusal.{OpenRefusal}
use Rattle.events.specs.Events.{action_of, event_at}
use Rattle.events.specs.First.{first_fit}
use Rattle.events.specs.Noting.{Opening, opened_as, opened, open_tests, eq_z, is_of, latest, lock_after, count_of, free, held_by, subjects, value_now, lock_now, note_tests, refused, noting, Noted}
use Rattle.events.specs.Noting.Noted.{none, more}
use Rattle.order.specs.Trace.{blank, thread_at, place_at, kind_at, subject_at, value_at, Is, Reads, Writes, Acquires, Releases}
use Rattle.order.specs.Before.{NoneBetween, Feeds}
use Rattle.order.specs.Before.Feeds.{value, hold}
use Rattle.order.specs.Groups.{Member}
use Rattle.order.specs.Groups.Group.{starting}
use Rattle.order.specs.Sound.{count, Holds, Sound, Within}
use Rattle.order.specs.Noted.{Allowed, not_refused, noted_after, noted}
use Rattle.order.proofs.Decided.{decides_every}
use Rattle.order.proofs.Places.{count_met}
use Rattle.order.proofs.Feeders.{clash, agree, one_feeder}

-- every test of the list fails
abbrev pub AllFail : {R : Type 0} → List (Bool × R) → Type 0
AllFail [] = ◌≡◌ {A = ℕ} 0 0
AllFail (p ∷ ps) = (p.0 ≡ false) × AllFail ps

all_fail : {R : Type 0} (ps : List (Bool × R)) → first_fit ps ≡ None → AllFail ps
all_fail [] h = refl
all_fail (p ∷ ps) h =
    elim (cases_Bool p.0) [
      | inl e ↦
          let q : Some p.1 ≡ None = sym (ap (λ b. cond b (Some p.1) (first_fit ps)) e) ∙ h in
          cc
      | inr e ↦ (e, all_fail ps (sym (ap (λ b. cond b (Some p.1) (first_fit ps)) e) ∙ h))
    ]

same_value : (a b : ℤ) → not (eq_z a b) ≡ false → a ≡ b
same_value a b h =
    let e = and_parts (not (lt_z a b)) (not (lt_z b a)) (not-false (eq_z a b) h) in
    let p : lt_z a b ≡ false = not-true (lt_z a b) e.0 in
    let q : lt_z b a ≡ false = not-true (lt_z b a) e.1 in
    grind (arith, ints)

-- a test that fails although its first part holds fails in the second
second : (x y : Bool) → (x && y) ≡ false → x ≡ true → y ≡ false
second true y h e = h
second false y h e = cc

is_free : (k : Lock) → not (free k) ≡ false → k ≡ Free
is_free Free h = refl
is_free (Held t) h = cc

is_held : (t : ℕ) (k : Lock) → not (held_by t k) ≡ false → k ≡ Held t
is_held t Free h = cc
is_held t (Held u) h = ap Held (eqb-true u t (not-false (eqb u t) h))

pub allowed : (o : Opening) (es : List Event) (a : Action) → refused o es a ≡ None → Allowed o es a
allowed o es a h =
    let t0 = all_fail (note_tests o es a) h in
    let t1 = t0.1 in
    let t2 = t1.1 in
    let t3 = t2.1 in
    let t4 = t3.1 in
    let t5 = t4.1 in
    let t6 = t5.1 in
    let t7 = t6.1 in
    let t8 = t7.1 in
    let t9 = t8.1 in
    record {
      valid = t0.0;
      thread = leb-false o.threads a.thread t1.0;
      kind = ltb-false 4 a.kind t2.0;
      subject = leb-false (subjects o a.kind) a.subject t3.0;
      lock_value = λ l. same_value a.value (pos 0) (second (ltb 2 a.kind) (not (eq_z a.value (pos 0))) t4.0 (lt-ltb 2 a.kind l));
      read_value = λ e. same_value a.value (value_now o es a.subject) (second (eqb a.kind 1) _ t5.0 (eq-eqb a.kind 1 e));
      acquired = λ e. is_free (lock_now es a.subject) (second (eqb a.kind 3) _ t6.0 (eq-eqb a.kind 3 e));
      released = λ e. is_held a.thread (lock_now es a.subject) (second (eqb a.kind 4) _ t7.0 (eq-eqb a.kind 4 e));
      few = leb-false 255 (count_of a.thread es) t8.0;
      room = leb-false o.room (length es) t9.0;
    }

-- the event e was noted right after the events es
abbrev pub NotedAfter : Opening → List Event → Event → Type 0
NotedAfter o es e = (refused o es (action_of e) ≡ None) × (e.place ≡ suc (count_of e.thread es))

abbrev pub Each : Opening → List Event → Type 0
Each o es = (i : ℕ) → i < length es → NotedAfter o (take i es) (get_or es i blank)

pub each_of : (o : Opening) {es : List Event} → Noted o es → Each o es
each_of o none i h = absurd (omega arith)
each_of o (more {es = es} a n r) i h =
    let e : Event = noting es a in
    elim (cases_lt i (length es)) [
      | inl l ↦
          subst (λ xs. NotedAfter o xs (get_or (es ++ e ∷ []) i blank)) (sym (take-append-le i es (e ∷ []) (omega arith)))
          (subst (NotedAfter o (take i es)) (sym (get_or_append_left es (e ∷ []) blank i l)) (each_of o n i l))
      | inr l ↦
          let q : length es ≡ i = omega (arith, length_push es e) in
          subst (λ xs. NotedAfter o xs (get_or (es ++ e ∷ []) i blank)) (sym (take_at es (e ∷ []) i q))
          (subst (NotedAfter o es) (sym (get_or_push es e blank i q)) (r, refl))
    ]

event_at_lem : (e : Event) (p : ℕ) → e.place ≡ p → event_at p (action_of e) ≡ e
event_at_lem e p h = λ i. record { thread = e.thread; place = sym h i; kind = e.kind; subject = e.subject; value = e.value }

-- the first i events and the next
pub take_next : (es : List Event) (i : ℕ) → i < length es → take (suc i) es ≡ take i es ++ get_or es i blank ∷ []
take_next es i h = ap (λ k. take k es) (sym (add-one i)) ∙ take_more es i blank h

noted_upto : (o : Opening) (es : List Event) → Each o es → (k : ℕ) → k ≤ length es → Noted o (take k es)
noted_upto o es each zero l = none
noted_upto o es each (suc k) l =
    let e : Event = get_or es k blank in
    let h = each k l in
    let n = more (action_of e) (noted_upto o es each k (omega arith)) h.0 in
    let q : noting (take k es) (action_of e) ≡ e = event_at_lem e (suc (count_of e.thread (take k es))) h.1 in
    subst (Noted o) (ap (λ x. take k es ++ x ∷ []) q ∙ sym (take_next es k l)) n

pub noted_from : (o : Opening) (es : List Event) → Each o es → Noted o es
noted_from o es each = subst (Noted o) (take_all (length es) es (omega arith)) (noted_upto o es each (length es) (omega arith))

decides_not_refused : (r : Option Refusal) → Decides (not_refused r) (r ≡ None)
decides_not_refused (Some why) = ((λ h. cc), (λ h. cc))
decides_not_refused None = ((λ h. refl), (λ h. refl))

pub decides_noted : (o : Opening) (es : List Event) → Decides (noted o es) (Noted o es)
decides_noted o es =
    Decides-like (noted o es) (noted_from o es) (each_of o)
    (decides_every (λ i. noted_after o (take i es) (get_or es i blank)) (λ i. NotedAfter o (take i es) (get_or es i blank))
    (λ i. Decides-and _ _ (decides_not_refused (refused o (take i es) (action_of (get_or es i blank))))
    (Decides-eqb (place_at es i) (suc (count_of (thread_at es i) (take i es))))) (length es))

-- counts, values and locks after one event more
swap : (b c : Bool) (n : ℕ) → cond b (suc (cond c (suc n) n)) (cond c (suc n) n) ≡ cond c (suc (cond b (suc n) n)) (cond b (suc n) n)
swap true true n = refl
swap true false n = refl
swap false true n = refl
swap false false n = refl

count-push : (t : ℕ) (xs : List Event) (e : Event) → count_of t (xs ++ e ∷ []) ≡ cond (eqb e.thread t) (suc (count_of t xs)) (count_of t xs)
count-push t [] e = refl
count-push t (x ∷ xs) e =
    ap (λ n. cond (eqb x.thread t) (suc n) n) (count-push t xs e) ∙ swap (eqb x.thread t) (eqb e.thread t) (count_of t xs)

latest_push : (v : ℤ) (x : ℕ) (es : List Event) (e : Event) → latest v x (es ++ e ∷ []) ≡ cond (is_of 2 x e) e.value (latest v x es)
latest_push v x [] e = refl
latest_push v x (f ∷ es) e = latest_push (cond (is_of 2 x f) f.value v) x es e

lock_push : (k : Lock) (l : ℕ) (es : List Event) (e : Event)
    → lock_after k l (es ++ e ∷ []) ≡ cond (is_of 3 l e) (Held e.thread) (cond (is_of 4 l e) Free (lock_after k l es))
lock_push k l [] e = refl
lock_push k l (f ∷ es) e = lock_push (cond (is_of 3 l f) (Held f.thread) (cond (is_of 4 l f) Free k)) l es e

module _ (es : List Event) where
  pub count_take : (t i : ℕ) → i ≤ length es → count_of t (take i es) ≡ count es t i
  count_take t zero h = refl
  count_take t (suc i) h =
      ap (count_of t) (take_next es i h) ∙ count-push t (take i es) (get_or es i blank)
      ∙ ap (λ n. cond (eqb (thread_at es i) t) (suc n) n) (count_take t i (omega arith))

  pub is_of_lem : (k s i : ℕ) → i < length es → Decides (is_of k s (get_or es i blank)) (Is es k s i)
  is_of_lem k s i l =
      Decides-like (is_of k s (get_or es i blank)) (λ h. record { noted = l; kind = h.0; subject = h.1 }) (λ h. (h.kind, h.subject))
      (Decides-and _ _ (Decides-eqb (kind_at es i) k) (Decides-eqb (subject_at es i) s))

  -- v is variable x's value when i events are noted, where it had the value s ahead of them
  abbrev pub HasValue : ℤ → ℕ → ℕ → ℤ → Type 0
  HasValue s x i v =
      ((e : ℕ) × (e < i) × Writes es x e × NoneBetween e i (Writes es x) × (v ≡ value_at es e))
      ⊎ (((k : ℕ) → k < i → Writes es x k → ⊥) × (v ≡ s))

  -- the events below suc i are those below i and event i
  below_more : (P : ℕ → Type 0) (i : ℕ) → (P i → ⊥) → (k : ℕ) → k < suc i → P k → (k < i)
  below_more P i n k a h =
      elim (cases_lt k i) [ inl l ↦ l | inr l ↦ let z : k ≡ i = omega arith in absurd (n (subst P z h)) ]

  value_kept : (s : ℤ) (x i : ℕ) (v : ℤ) → (Writes es x i → ⊥) → HasValue s x i v → HasValue s x (suc i) v
  value_kept s x i v n (inl h) = inl (h.0, omega arith, h.2, (λ k a b w. h.3 k a (below_more (Writes es x) i n k b w) w), h.4)
  value_kept s x i v n (inr h) = inr ((λ k a w. h.0 k (below_more (Writes es x) i n k a w) w), h.1)

  pub has_value : (s : ℤ) (x i : ℕ) → i ≤ length es → HasValue s x i (latest s x (take i es))
  has_value s x zero l = inr ((λ k a w. absurd (omega arith)), refl)
  has_value s x (suc i) l =
      let e : Event = get_or es i blank in
      let d = is_of_lem 2 x i l in
      let q = ap (latest s x) (take_next es i l) ∙ latest_push s x (take i es) e in
      let ih = has_value s x i (omega arith) in
      elim (cases_Bool (is_of 2 x e)) [
        | inl b ↦
            subst (HasValue s x (suc i)) (sym (q ∙ ap (λ b'. cond b' e.value (latest s x (take i es))) b))
            (inl (i, omega arith, d.0 b, (λ k u w z. omega arith), refl))
        | inr b ↦
            subst (HasValue s x (suc i)) (sym (q ∙ ap (λ b'. cond b' e.value (latest s x (take i es))) b))
            (value_kept s x i (latest s x (take i es)) (λ w. let z : true ≡ false = sym (d.1 w) ∙ b in cc) ih)
      ]

  -- k is lock l when i events are noted
  abbrev pub HasLock : ℕ → ℕ → Lock → Type 0
  HasLock l i Free = (t : ℕ) → Holds es t l i → ⊥
  HasLock l i (Held h) = Holds es h l i

  lock_kept : (l i : ℕ) (k : Lock) → (Acquires es l i → ⊥) → (Releases es l i → ⊥) → HasLock l i k → HasLock l (suc i) k
  lock_kept l i Free a r h = λ t g.
      h t (record {
        since = g.since;
        earlier = below_more (Acquires es l) i a g.since g.earlier g.acquired;
        acquired = g.acquired;
        own = g.own;
        kept = λ k u v. g.kept k u (omega arith);
      })
  lock_kept l i (Held t) a r h = record {
    since = h.since;
    earlier = omega (arith, h.earlier);
    acquired = h.acquired;
    own = h.own;
    kept = λ k u v w. h.kept k u (below_more (Releases es l) i r k v w) w;
  }

  pub has_lock : (l i : ℕ) → i ≤ length es → HasLock l i (lock_now (take i es) l)
  has_lock l zero h = λ t g. omega (arith, g.earlier)
  has_lock l (suc i) h =
      let e : Event = get_or es i blank in
      let d = is_of_lem 3 l i h in
      let d' = is_of_lem 4 l i h in
      let k : Lock = lock_now (take i es) l in
      let q = ap (λ xs. lock_now xs l) (take_next es i h) ∙ lock_push Free l (take i es) e in
      let never : (b : Bool) (P : Type 0) → Decides b P → b ≡ false → P → ⊥
      = λ b P dec f p. let z : true ≡ false = sym (dec.1 p) ∙ f in cc in
      elim (cases_Bool (is_of 3 l e)) [
        | inl b ↦
            subst (HasLock l (suc i)) (sym (q ∙ ap (λ b'. cond b' (Held e.thread) (cond (is_of 4 l e) Free k)) b))
            (record { since = i; earlier = omega arith; acquired = d.0 b; own = refl; kept = λ j u v w. omega arith })
        | inr b ↦
            elim (cases_Bool (is_of 4 l e)) [
              | inl b' ↦
                  subst (HasLock l (suc i))
                  (sym (q ∙ ap (λ f. cond f (Held e.thread) (cond (is_of 4 l e) Free k)) b ∙ ap (λ f. cond f Free k) b'))
                  (λ t g.
                  let a = never (is_of 3 l e) (Acquires es l i) d b in
                  g.kept i (below_more (Acquires es l) i a g.since g.earlier g.acquired) (omega arith) (d'.0 b'))
              | inr b' ↦
                  subst (HasLock l (suc i))
                  (sym (q ∙ ap (λ f. cond f (Held e.thread) (cond (is_of 4 l e) Free k)) b ∙ ap (λ f. cond f Free k) b'))
                  (lock_kept l i k (never (is_of 3 l e) (Acquires es l i) d b) (never (is_of 4 l e) (Releases es l i) d' b') (has_lock l i (omega arith)))
            ]
      ]

-- the places bound the counts
pub counts_from_places : (es : List Event) → Sound es → ((i : ℕ) → i < length es → place_at es i ≤ 255) → (t : ℕ) → count_of t es ≤ 255
counts_from_places es sound places t =
    let q : count_of t es ≡ count es t (length es) = ap (count_of t) (sym (take_all (length es) es (omega arith))) ∙ count_take es t (length es) (omega arith) in
    elim (cases_lt 255 (count_of t es)) [
      | inl l ↦
          let m = count_met es t 255 (length es) (omega arith) in
          let u : count es (thread_at es m.0) m.0 ≡ 255 = ap (λ s. count es s m.0) m.2 ∙ m.3 in
          absurd (omega (arith, sound.places m.0 m.1, places m.0 m.1))
      | inr l ↦ l
    ]

module _ (o : Opening) (es : List Event) (each : Each o es) where
  pub allowed_at : (i : ℕ) → i < length es → Allowed o (take i es) (action_of (get_or es i blank))
  allowed_at i l = allowed o (take i es) (action_of (get_or es i blank)) (each i l).0

  free_at : (l i : ℕ) → Acquires es l i → lock_now (take i es) l ≡ Free
  free_at l i a = subst (λ s. lock_now (take i es) s ≡ Free) a.subject ((allowed_at i a.noted).acquired a.kind)

  held_at : (l i : ℕ) → Releases es l i → lock_now (take i es) l ≡ Held (thread_at es i)
  held_at l i a = subst (λ s. lock_now (take i es) s ≡ Held (thread_at es i)) a.subject ((allowed_at i a.noted).released a.kind)

  sound_each : Sound es
  sound_each = record {
    places = λ i l. (each i l).1 ∙ ap suc (count_take es (thread_at es i) i (omega arith));
    acquires = λ l i a. subst (HasLock es l i) (free_at l i a) (has_lock es l i (omega (arith, a.noted)));
    releases = λ l i a. subst (HasLock es l i) (held_at l i a) (has_lock es l i (omega (arith, a.noted)));
  }

  value_at_lem : (x i : ℕ) → Reads es x i → value_at es i ≡ value_now o (take i es) x
  value_at_lem x i r = subst (λ s. value_at es i ≡ value_now o (take i es) s) r.subject ((allowed_at i r.noted).read_value r.kind)

  starting_value : (x i : ℕ) → Member es (starting x) i → value_at es i ≡ get_or o.starts x (pos 0)
  starting_value x i m =
      elim (has_value es (get_or o.starts x (pos 0)) x i (omega (arith, m.0.noted))) [
        | inl h ↦ absurd (m.1 h.0 h.1 h.2)
        | inr h ↦ value_at_lem x i m.0 ∙ h.1
      ]

  written_value : (x e i : ℕ) → Reads es x i → Feeds es e i → value_at es i ≡ value_at es e
  written_value x e i r (hold y a b m n) = clash es 1 x 4 y i (λ z. omega arith) r b
  written_value x e i r (value y w d m n) =
      let q : y ≡ x = agree es 1 y 1 x i d r in
      let w' : Writes es x e = subst (λ z. Writes es z e) q w in
      elim (has_value es (get_or o.starts x (pos 0)) x i (omega (arith, r.noted))) [
        | inl h ↦
            let f : h.0 ≡ e = one_feeder es h.0 e i (value x h.2 r h.1 h.3) (value y w d m n) in
            value_at_lem x i r ∙ h.4 ∙ ap (value_at es) f
        | inr h ↦ absurd (h.0 e m w')
      ]

  place_few : (i : ℕ) → i < length es → place_at es i ≤ 255
  place_few i l = omega (arith, (each i l).1, (allowed_at i l).few)

  within_each : Within o es
  within_each = record {
    valid = λ l. (allowed_at 0 l).valid;
    threads = λ i l. (allowed_at i l).thread;
    kinds = λ i l. (allowed_at i l).kind;
    subjects_below = λ i l. (allowed_at i l).subject;
    lock_values = λ i l. (allowed_at i l).lock_value;
    written = written_value;
    starting = starting_value;
    places = λ i l. place_few i l;
    counts = counts_from_places es sound_each place_few;
    room =
        elim (cases_lt o.room (length es)) [
          | inl l ↦ absurd (omega (arith, (allowed_at o.room l).room, length-take-le o.room es (omega arith)))
          | inr l ↦ l
        ];
  }

pub sound_of : (o : Opening) (es : List Event) → Noted o es → Sound es
sound_of o es n = sound_each o es (each_of o n)

pub within_of : (o : Opening) (es : List Event) → Noted o es → Within o es
within_of o es n = within_each o es (each_of o n)

abbrev Small : Opening → Type 0
Small o = (o.threads ≤ 8) × (length o.starts ≤ 32) × (o.room ≤ 1024)

pub opened_small : (threads : ℕ) (starts : List ℤ) (room : ℕ) → Small (opened threads starts room)
opened_small threads starts room = go (first_fit (open_tests threads starts room)) refl
  where
    go : (r : Option OpenRefusal) → first_fit (open_tests threads starts room) ≡ r → Small (opened_as r threads starts room)
    go (Some why) h = (omega arith, omega arith, omega arith)
    go None h =
        let t = all_fail (open_tests threads starts room) h in (
          ltb-false 8 threads (or_parts (eqb threads 0) (ltb 8 threads) t.0).1,
          ltb-false 32 (length starts) t.1.0,
          ltb-false 1024 room t.1.1.0,
        )
