-- Sound lists within an opening are noted, and so are runs that keep the last acquires last.
use Rattle.std.proofs.Common.{◌≡◌, ℕ, suc, ◌<◌, ◌≤◌, Bool, true, false, cond, not, ◌&&◌, List, [], ◌∷◌, length, get_or, take, ℤ, pos, Some, None, sym, refl, ap, ◌∙◌, subst, inl, inr, arith}
use lib.Signed.{lt_z}
use Rattle.std.proofs.lemmas.List.{length-take-le}
use Rattle.std.proofs.lemmas.Int.{ints}
use Rattle.std.proofs.lemmas.Bool.{cases_order, eq-eqb, eqb-true, ltb-true, lt-leb, le-ltb}
use Rattle.events.specs.declared.event.Action.{Action}
use Rattle.events.specs.declared.event.Event.{Event}
use Rattle.events.specs.declared.lock.Lock.{Lock}
use Rattle.events.specs.declared.lock.Lock.TheVariants.{Free, Held}
use Rattle.events.specs.Events.{action_of}
use Rattle.events.specs.First.{first_fit}
use Rattle.events.specs.Noting.{Opening, eq_z, count_of, free, held_by, subjects, value_now, lock_now, note_tests, refused, Noted}
use Rattle.order.specs.Trace.{blank, thread_at, place_at, kind_at, subject_at, value_at, Reads}
use Rattle.order.specs.Before.Feeds.{value}
use Rattle.order.specs.Runs.{Ordering, Consistent, reordered, SameFeeds, KeepsLast}
use Rattle.order.specs.Sound.{Holds, Sound, Within}
use Rattle.order.specs.Noted.{Allowed}
use Rattle.order.proofs.Decided.{feeds_noted}
use Rattle.order.proofs.Noting.{AllFail, noted_from, count_take, counts_from_places, has_value, HasLock, has_lock, sound_of, within_of}
use Rattle.order.proofs.Reaching.{run_length}
use Rattle.order.proofs.Reordered.{rep_at, rep_length, within, from_rep, start_from, feeds_to_rep, feeds_from_rep, sound_rep, consistent_from, keeps_last_from}

-- where every test fails, none is the first to hold
none_fits : {R : Type 0} (ps : List (Bool × R)) → AllFail ps → first_fit ps ≡ None
none_fits [] h = refl
none_fits (p ∷ ps) h = ap (λ b. cond b (Some p.1) (first_fit ps)) h.0 ∙ none_fits ps h.1

fails : (x y : Bool) → (x ≡ true → y ≡ false) → (x && y) ≡ false
fails true y h = h refl
fails false y h = refl

not_under : (a : ℤ) → lt_z a a ≡ false
not_under a = grind (arith, ints)

equal_value : (a b : ℤ) → a ≡ b → not (eq_z a b) ≡ false
equal_value a b e = subst (λ z. not (eq_z a z) ≡ false) e (ap (λ t. not (not t && not t)) (not_under a))

found_free : (k : Lock) → k ≡ Free → not (free k) ≡ false
found_free k e = ap (λ j. not (free j)) e

found_held : (t : ℕ) (k : Lock) → k ≡ Held t → not (held_by t k) ≡ false
found_held t k e = ap (λ j. not (held_by t j)) e ∙ ap not (eq-eqb t t refl)

pub not_refused_lem : (o : Opening) (es : List Event) (a : Action) → Allowed o es a → refused o es a ≡ None
not_refused_lem o es a h =
    none_fits (note_tests o es a) (
      h.valid,
      (
        lt-leb o.threads a.thread h.thread,
        (
          le-ltb 4 a.kind h.kind,
          (
            lt-leb (subjects o a.kind) a.subject h.subject,
            (
              fails _ _ (λ e. equal_value a.value (pos 0) (h.lock_value (ltb-true 2 a.kind e))),
              (
                fails _ _ (λ e. equal_value a.value (value_now o es a.subject) (h.read_value (eqb-true a.kind 1 e))),
                (
                  fails _ _ (λ e. found_free (lock_now es a.subject) (h.acquired (eqb-true a.kind 3 e))),
                  (
                    fails _ _ (λ e. found_held a.thread (lock_now es a.subject) (h.released (eqb-true a.kind 4 e))),
                    (lt-leb 255 (count_of a.thread es) h.few, (lt-leb o.room (length es) h.room, refl)),
                  ),
                ),
              ),
            ),
          ),
        ),
      ),
    )

module _ (es : List Event) (sound : Sound es) where
  one_holder : (l i t u : ℕ) → Holds es t l i → Holds es u l i → t ≡ u
  one_holder l i t u a b =
      elim (cases_order a.since b.since) [
        | inl q ↦ sym a.own ∙ ap (thread_at es) q ∙ b.own
        | inr q ↦ elim q [
          | inl h ↦ absurd (sound.acquires l b.since b.acquired t (earlier t a b.since h (omega (arith, b.earlier))))
          | inr h ↦ absurd (sound.acquires l a.since a.acquired u (earlier u b a.since h (omega (arith, a.earlier))))
        ]
      ]
    where
      earlier : (t : ℕ) (a : Holds es t l i) (j : ℕ) → a.since < j → j ≤ i → Holds es t l j
      earlier t a j h m = record { since = a.since; earlier = h; acquired = a.acquired; own = a.own; kept = λ k x y. a.kept k x (omega arith) }

  lock_free : (l i : ℕ) (k : Lock) → HasLock es l i k → ((t : ℕ) → Holds es t l i → ⊥) → k ≡ Free
  lock_free l i Free h n = refl
  lock_free l i (Held t) h n = absurd (n t h)

  lock_held : (l i t : ℕ) (k : Lock) → HasLock es l i k → Holds es t l i → k ≡ Held t
  lock_held l i t Free h a = absurd (h t a)
  lock_held l i t (Held u) h a = ap Held (one_holder l i u t h a)

  module _ (o : Opening) (fine : Within o es) (i : ℕ) (l : i < length es) where
    read_value_lem : kind_at es i ≡ 1 → value_at es i ≡ value_now o (take i es) (subject_at es i)
    read_value_lem e =
        let x : ℕ = subject_at es i in
        let r : Reads es x i = record { noted = l; kind = e; subject = refl } in
        elim (has_value es (get_or o.starts x (pos 0)) x i (omega arith)) [
          | inl h ↦ fine.written x h.0 i r (value x h.2 r h.1 h.3) ∙ sym h.4
          | inr h ↦ fine.starting x i (r, h.0) ∙ sym h.1
        ]

    allowed_here : Allowed o (take i es) (action_of (get_or es i blank))
    allowed_here =
        let s : ℕ = subject_at es i in
        let k = has_lock es s i (omega arith) in
        record {
          valid = fine.valid (omega arith);
          thread = fine.threads i l;
          kind = fine.kinds i l;
          subject = fine.subjects_below i l;
          lock_value = fine.lock_values i l;
          read_value = read_value_lem;
          acquired = λ e. lock_free s i (lock_now (take i es) s) k (sound.acquires s i (record { noted = l; kind = e; subject = refl }));
          released = λ e. lock_held s i (thread_at es i) (lock_now (take i es) s) k (sound.releases s i (record { noted = l; kind = e; subject = refl }));
          few = omega (arith, count_take es (thread_at es i) i (omega arith), sound.places i l, fine.places i l);
          room = omega (arith, length-take-le i es (omega arith), fine.room);
        }

pub noted_sound : (o : Opening) (es : List Event) → Sound es → Within o es → Noted o es
noted_sound o es sound fine =
    noted_from o es (λ i l. (
      not_refused_lem o (take i es) (action_of (get_or es i blank)) (allowed_here es sound o fine i l),
      sound.places i l ∙ ap suc (sym (count_take es (thread_at es i) i (omega arith))),
    ))

-- a run that is sound, with the same feeds, is within what the list is
module _ (o : Opening) (es : List Event) (fine : Within o es) (r : List ℕ) (ordered : Ordering es r)
    (sr : Sound (reordered es r)) (same : SameFeeds es r) where
  in_run : (i : ℕ) → i < length (reordered es r) → i < length r
  in_run i h = omega (arith, rep_length es r ordered)

  -- what holds of each event holds of each event of the run
  over : (P : Event → Type 0) → ((i : ℕ) → i < length es → P (get_or es i blank)) → (i : ℕ) → i < length (reordered es r) → P (get_or (reordered es r) i blank)
  over P h i l = let k = in_run i l in subst P (sym (rep_at es r ordered i k)) (h (get_or r i 0) (ordered.noted i k))

  value_over : (k : ℕ) → k < length r → value_at (reordered es r) k ≡ value_at es (get_or r k 0)
  value_over k h = ap (λ (e : Event). e.value) (rep_at es r ordered k h)

  within_run : Within o (reordered es r)
  within_run =
      let len = rep_length es r ordered in
      let places : (i : ℕ) → i < length (reordered es r) → place_at (reordered es r) i ≤ 255 = over (λ e. e.place ≤ 255) fine.places in
      record {
        valid = λ l. fine.valid (omega (arith, run_length es r ordered));
        threads = over (λ e. e.thread < o.threads) fine.threads;
        kinds = over (λ e. e.kind ≤ 4) fine.kinds;
        subjects_below = over (λ e. e.subject < subjects o e.kind) fine.subjects_below;
        lock_values = over (λ e. 2 < e.kind → e.value ≡ pos 0) fine.lock_values;
        written = λ x e i d f.
            let b = feeds_noted (reordered es r) e i f in
            let k = in_run e b.0 in
            let l = in_run i b.1 in
            value_over i l ∙ fine.written x (get_or r e 0) (get_or r i 0) (from_rep es r ordered 1 x i d) ((same e i k l).1 f) ∙ sym (value_over e k);
        starting = λ x i m.
            let l = within es r ordered 1 x i m.0 in
            value_over i l ∙ fine.starting x (get_or r i 0) (start_from es r ordered sr same x i l m);
        places = places;
        counts = counts_from_places (reordered es r) sr places;
        room = omega (arith, run_length es r ordered, fine.room);
      }

module _ (o : Opening) (es : List Event) (n : Noted o es) (r : List ℕ) where
  pub run_noted : Consistent es r → KeepsLast es r → Noted o (reordered es r) × SameFeeds es r
  run_noted run last =
      let sound = sound_of o es n in
      let sr = sound_rep es sound r run last in
      let same : SameFeeds es r = λ j k a b. (feeds_to_rep es sound r run j k a b, feeds_from_rep es sound r run j k a b) in
      (noted_sound o (reordered es r) sr (within_run o es (within_of o es n) r run.ordering sr same), same)

  pub noted_run : Ordering es r → Noted o (reordered es r) → SameFeeds es r → Consistent es r × KeepsLast es r
  noted_run ordered m same =
      let sr = sound_of o (reordered es r) m in
      (consistent_from es r ordered sr same, keeps_last_from es r ordered sr same)
