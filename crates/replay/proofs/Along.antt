-- Along a replay.
use Rattle.std.proofs.Common.{◌≡◌, ℕ, zero, suc, ◌+◌, ◌<◌, ◌≤◌, ◌⊎◌, List, Err, [], ◌∷◌, ◌++◌, map, length, get_or, take, drop, set, sym, refl, ap, ◌∙◌, subst, ap₂, inl, inr, append_assoc, append-nil, arith, take-append-drop, drop-cons}
use mathlib.Core.Path.{fun_ext}
use Rattle.std.proofs.lemmas.List.{map-append, get_or-set_same, get_or-set_other}
use Rattle.std.proofs.lemmas.Bool.{cases_lt, cases_eq, cases_order}
use Rattle.events.specs.declared.event.Event.{Event}
use Rattle.events.specs.Events.{action_of}
use Rattle.order.specs.Trace.{blank, thread_at}
use Rattle.order.specs.Runs.{Consistent, thread_list, RunOf, reordered}
use Rattle.order.specs.Cuts.{Cut, empty_cut, advance, In, MayFollow, AcceptedFrom, Accepted, Reach}
use Rattle.order.specs.Cuts.Reach.{start, onward}
use Rattle.order.specs.Sound.{Sound}
use Rattle.order.specs.Clocks.{Number}
use Rattle.order.specs.Clocks.Number.{none, one_more, no_more}
use Rattle.order.specs.Reached.{cut_of}
use Rattle.order.specs.Waiting.{HasNext}
use Rattle.order.proofs.Cuts.{advance_own, advance_other, in_advance, in_advance_cases}
use Rattle.order.proofs.Paths.{runs_are_paths}
use Rattle.order.proofs.Reaching.{run_length, paths_are_runs}
use Rattle.order.proofs.Places.{same_event}
use Rattle.monitor.specs.Meaning.{Meaning, ran}
use Rattle.monitor.proofs.Ends.{ran_push}
use Rattle.follow.specs.Balance.{ThreadsBelow}
use Rattle.follow.specs.Answers.{Answers}
use Rattle.follow.specs.declared.no_next.NoNext.TheVariants as because
use Rattle.follow.proofs.Counting.{number_like, number_le, number_none, number_sum}
use Rattle.replay.specs.declared.refusal.ReplayRefusal.{ReplayRefusal}
use Rattle.replay.specs.declared.refusal.ReplayRefusal.TheVariants as refusal
use Rattle.replay.specs.Outcome.{actions_of, Taken, RefusedAt, Refused}

pub cut_start : cut_of (0 ∷ 0 ∷ 0 ∷ 0 ∷ 0 ∷ 0 ∷ 0 ∷ 0 ∷ []) ≡ empty_cut
cut_start = fun_ext (λ t. go t)
  where
    go : (t : ℕ) → cut_of (0 ∷ 0 ∷ 0 ∷ 0 ∷ 0 ∷ 0 ∷ 0 ∷ 0 ∷ []) t ≡ 0
    go zero = refl
    go (suc zero) = refl
    go (suc (suc zero)) = refl
    go (suc (suc (suc zero))) = refl
    go (suc (suc (suc (suc zero)))) = refl
    go (suc (suc (suc (suc (suc zero))))) = refl
    go (suc (suc (suc (suc (suc (suc zero)))))) = refl
    go (suc (suc (suc (suc (suc (suc (suc zero))))))) = refl
    go (suc (suc (suc (suc (suc (suc (suc (suc t)))))))) = refl

pub cut-more : (cs : List ℕ) (t u p : ℕ) → t < length cs → u ≡ t → p ≡ suc (get_or cs t 0) → advance u (cut_of cs) ≡ cut_of (set cs t p)
cut-more cs t u p l e q = fun_ext (λ v. go v)
  where
    go : (v : ℕ) → advance u (cut_of cs) v ≡ cut_of (set cs t p) v
    go v =
        elim (cases_eq u v) [
          | inl a ↦
              let b : t ≡ v = sym e ∙ a in
              advance_own u (cut_of cs) v a ∙ sym (ap (λ z. suc (get_or cs z 0)) b) ∙ sym q
              ∙ sym (subst (λ z. get_or (set cs t p) z 0 ≡ p) b (get_or-set_same cs t p 0 l))
          | inr a ↦ advance_other u (cut_of cs) v a ∙ sym (get_or-set_other cs t v p 0 (λ z. a (e ∙ sym z)))
        ]

pub threads_more : (es : List Event) (r : List ℕ) (i : ℕ) → thread_list es (r ++ i ∷ []) ≡ thread_list es r ++ thread_at es i ∷ []
threads_more es r i = map-append (thread_at es) r (i ∷ [])

pub ran_more : (m : Meaning) (es : List Event) (r : List ℕ) (i : ℕ) → ran m (actions_of es (r ++ i ∷ [])) ≡ m.step (ran m (actions_of es r)) (action_of (get_or es i blank))
ran_more m es r i =
    ap (λ xs. ran m (map action_of xs)) (map-append (λ j. get_or es j blank) r (i ∷ []))
    ∙ ap (ran m) (map-append action_of (reordered es r) (get_or es i blank ∷ []))
    ∙ ran_push m (actions_of es r) (action_of (get_or es i blank))

pub length_threads : (es : List Event) (r : List ℕ) → length (thread_list es r) ≡ length r
length_threads es [] = refl
length_threads es (x ∷ r) = ap suc (length_threads es r)

number_single : (i n : ℕ) → i < n → Number (λ j. j ≡ i) n 1
number_single i zero l = absurd (omega arith)
number_single i (suc n) l =
    elim (cases_eq n i) [
      | inl e ↦ one_more (number_none (λ j. j ≡ i) n (λ j b q. omega arith)) e
      | inr e ↦ no_more (number_single i n (elim (cases_lt i n) [ inl b ↦ b | inr b ↦ absurd (e (omega arith)) ])) e
    ]

number_full : {P : ℕ → Type 0} {n k : ℕ} → Number P n k → n ≤ k → (i : ℕ) → i < n → P i
number_full none e i l = absurd (omega arith)
number_full {P = P} (one_more {n = n} r p) e i l =
    elim (cases_lt i n) [
      | inl b ↦ number_full r (omega arith) i b
      | inr b ↦ let z : n ≡ i = omega arith in subst P z p
    ]
number_full {P = P} (no_more r p) e i l = absurd (omega (arith, number_le P r))

take_take_le : (k l : ℕ) (ts : List ℕ) → k < l → take k (take l ts) ≡ take k ts
take_take_le zero l ts h = refl
take_take_le (suc k) zero ts h = absurd (omega arith)
take_take_le (suc k) (suc l) [] h = refl
take_take_le (suc k) (suc l) (x ∷ ts) h = ap (λ xs. x ∷ xs) (take_take_le k l ts (omega arith))

drop_take_cons : (ts : List ℕ) (k l : ℕ) → k < l → l < length ts → drop k (take l ts) ≡ get_or ts k 0 ∷ drop (suc k) (take l ts)
drop_take_cons [] k l h m = absurd (omega arith)
drop_take_cons (x ∷ ts) k zero h m = absurd (omega arith)
drop_take_cons (x ∷ ts) zero (suc l) h m = refl
drop_take_cons (x ∷ ts) (suc k) (suc l) h m = drop_take_cons ts k l (omega arith) (omega arith)

module _ (es : List Event) (sound : Sound es) where
  -- a path has as many events as its cut
  reach_number : {r : List ℕ} {c : Cut} → Reach es r c → Number (In es c) (length es) (length r)
  reach_number start = number_none (In es empty_cut) (length es) (λ j l h. omega (arith, sound.places j l))
  reach_number (onward {r = r} {c = c} i a m) =
      subst (Number (In es (advance (thread_at es i) c)) (length es)) (sym (longer r))
      (number_like (λ j. (j ≡ i) ⊎ In es c j) (In es (advance (thread_at es i) c))
      (number_sum (λ j. j ≡ i) (In es c) (number_single i (length es) m.noted) (reach_number a) (λ j l e h. out (subst (In es c) e h)))
      (λ j l h. elim h [ inl e ↦ subst (In es (advance (thread_at es i) c)) (sym e) own | inr k ↦ in_advance es c (thread_at es i) j k ])
      (λ j l h. elim (in_advance_cases es sound c i j m.noted l m.next h) [ inl k ↦ inr k | inr e ↦ inl e ]))
    where
      longer : (r : List ℕ) → length (r ++ i ∷ []) ≡ 1 + length r
      longer [] = refl
      longer (x ∷ r) = let h = longer r in omega arith

      out : In es c i → ⊥
      out h = omega (arith, m.next)

      own : In es (advance (thread_at es i) c) i
      own = omega (arith, m.next, advance_own (thread_at es i) c (thread_at es i) refl)

  pub all_run : (r : List ℕ) (c : Cut) → Reach es r c → length es ≤ length r → Consistent es r
  all_run r c a l = (paths_are_runs es sound r).1 c a (number_full (reach_number a) l)

  reach_accepted : {r : List ℕ} {c : Cut} → Reach es r c → (us : List ℕ) → Accepted es (thread_list es r ++ us) → AcceptedFrom es c us
  reach_accepted start us h = h
  reach_accepted (onward {r = r} {c = c} i a m) us h =
      (reach_accepted a (thread_at es i ∷ us)
      (subst (Accepted es) (ap (λ x. x ++ us) (threads_more es r i) ∙ append_assoc (thread_list es r) (thread_at es i ∷ []) us) h)).3

  stuck : (ts : List ℕ) (k : ℕ) (c : Cut) → Taken es ts k c → ((i : ℕ) → MayFollow es c i → thread_at es i ≡ get_or ts k 0 → ⊥) → RunOf es ts → ⊥
  stuck ts k c s n h =
      let a : Accepted es ts = (runs_are_paths es sound ts).1 h in
      let e : ts ≡ thread_list es s.events ++ (get_or ts k 0 ∷ drop (suc k) ts)
      = sym (take-append-drop k ts) ∙ ap₂ (λ x y. x ++ y) (sym s.threads) (drop-cons ts k 0 s.ahead) in
      let b = reach_accepted s.reach (get_or ts k 0 ∷ drop (suc k) ts) (subst (Accepted es) e a) in
      n b.0 b.1 b.2

  the_next : (c : Cut) (t i : ℕ) → MayFollow es c i → thread_at es i ≡ t → HasNext es c t i
  the_next c t i m e = record { noted = m.noted; own = e; place = m.next ∙ ap (λ u. suc (c u)) e }

  the_same : (c : Cut) (t i j : ℕ) → MayFollow es c j → thread_at es j ≡ t → HasNext es c t i → MayFollow es c i
  the_same c t i j m e a =
      let b = the_next c t j m e in
      subst (MayFollow es c) (same_event es sound j i b.noted a.noted (b.own ∙ sym a.own) (b.place ∙ sym a.place)) m

  -- where a list is refused, no event of the thread may follow
  abbrev Stops : (ℕ → Cut → Type 0) → Type 0
  Stops P = (t : ℕ) (c : Cut) → P t c → (i : ℕ) → MayFollow es c i → thread_at es i ≡ t → ⊥

  pub stops_thread : (n : ℕ) → ThreadsBelow es n → Stops (λ t c. n ≤ t)
  stops_thread n few t c l i m e = omega (arith, few i m.noted)

  pub stops_done : (n : ℕ) → Stops (λ t c. (t < n) × Answers es c t (Err because.Done))
  stops_done n t c a i m e = a.1 i (the_next c t i m e)

  pub stops_missing : (n : ℕ) → Stops (λ t c. (t < n) × Answers es c t (Err because.Missing))
  stops_missing n t c (l, a) i m e = let m' = the_same c t a.0 i m e a.1 in a.2.3 (m'.ready a.2.0 a.2.1 a.2.2)

  pub stops_blocked : (n : ℕ) → Stops (λ t c. (t < n) × Answers es c t (Err because.Blocked))
  stops_blocked n t c (l, a) i m e = let m' = the_same c t a.0 i m e a.1 in m'.alone a.3.0 a.3.1 a.3.2 a.3.3

  stopped : (ts : List ℕ) (p : ℕ) (P : ℕ → Cut → Type 0) → Stops P → RefusedAt es ts p P → RunOf es ts → ⊥
  stopped ts p P stops d = stuck ts d.0 d.1 d.3 (stops (get_or ts d.0 0) d.1 d.4)

  pub no_run : (n : ℕ) → ThreadsBelow es n → (ts : List ℕ) (why : ReplayRefusal) → Refused es n ts why → RunOf es ts → ⊥
  no_run n few ts refusal.Void d = absurd d
  no_run n few ts refusal.Length d = λ h. d (sym (ap length h.2) ∙ length_threads es h.0 ∙ run_length es h.0 h.1.ordering)
  no_run n few ts (refusal.Thread p) d = stopped ts p (λ t c. n ≤ t) (stops_thread n few) d
  no_run n few ts (refusal.Done p) d = stopped ts p (λ t c. (t < n) × Answers es c t (Err because.Done)) (stops_done n) d
  no_run n few ts (refusal.Missing p) d = stopped ts p (λ t c. (t < n) × Answers es c t (Err because.Missing)) (stops_missing n) d
  no_run n few ts (refusal.Blocked p) d = stopped ts p (λ t c. (t < n) × Answers es c t (Err because.Blocked)) (stops_blocked n) d

  -- the threads us, one by one, lead from the cut c to the cut d
  abbrev Walk : Cut → List ℕ → Cut → Type 0
  Walk c [] d = c ≡ d
  Walk c (t ∷ us) d = (i : ℕ) × MayFollow es c i × (thread_at es i ≡ t) × Walk (advance t c) us d

  reach_walk : {r : List ℕ} {c : Cut} → Reach es r c → (us : List ℕ) (d : Cut) → Walk c us d → Walk empty_cut (thread_list es r ++ us) d
  reach_walk start us d h = h
  reach_walk (onward {r = r} {c = c} i a m) us d h =
      subst (λ xs. Walk empty_cut xs d) (sym (ap (λ x. x ++ us) (threads_more es r i) ∙ append_assoc (thread_list es r) (thread_at es i ∷ []) us))
      (reach_walk a (thread_at es i ∷ us) d (i, m, refl, h))

  walk_on : {r : List ℕ} {c : Cut} → Reach es r c → (us : List ℕ) (d : Cut) → Walk empty_cut (thread_list es r ++ us) d → Walk c us d
  walk_on start us d h = h
  walk_on (onward {r = r} {c = c} i a m) us d h =
      (walk_on a (thread_at es i ∷ us) d
      (subst (λ xs. Walk empty_cut xs d) (ap (λ x. x ++ us) (threads_more es r i) ∙ append_assoc (thread_list es r) (thread_at es i ∷ []) us) h)).3

  walk_of : (ts : List ℕ) (k : ℕ) (c : Cut) → Taken es ts k c → Walk empty_cut (take k ts) c
  walk_of ts k c s = subst (λ xs. Walk empty_cut xs c) (append-nil (thread_list es s.events) ∙ s.threads) (reach_walk s.reach [] c refl)

  -- a list that is refused at k is not taken any further
  no_further : (ts : List ℕ) (k l : ℕ) (c d : Cut) → Taken es ts k c → Taken es ts l d → k < l → ((i : ℕ) → MayFollow es c i → thread_at es i ≡ get_or ts k 0 → ⊥) → ⊥
  no_further ts k l c d s w near stop =
      let e : take l ts ≡ thread_list es s.events ++ (get_or ts k 0 ∷ drop (suc k) (take l ts)) =
      sym (take-append-drop k (take l ts))
      ∙ ap₂ (λ x y. x ++ y) (take_take_le k l ts near ∙ sym s.threads) (drop_take_cons ts k l near w.ahead) in
      let b = walk_on s.reach (get_or ts k 0 ∷ drop (suc k) (take l ts)) d (subst (λ xs. Walk empty_cut xs d) e (walk_of ts l d w)) in
      stop b.0 b.1 b.2

  same_cut : (ts : List ℕ) (k : ℕ) (c d : Cut) → Taken es ts k c → Taken es ts k d → c ≡ d
  same_cut ts k c d s w =
      walk_on s.reach [] d (subst (λ xs. Walk empty_cut xs d) (sym (append-nil (thread_list es s.events) ∙ s.threads)) (walk_of ts k d w))

  -- two refusals stand at one position and one cut
  pub record Together (ts : List ℕ) (p q : ℕ) (P Q : ℕ → Cut → Type 0) : Type 0 where
    pub same : p ≡ q
    pub thread : ℕ
    pub cut : Cut
    pub left : P thread cut
    pub right : Q thread cut

  pub together : (ts : List ℕ) (p q : ℕ) (P Q : ℕ → Cut → Type 0) → Stops P → Stops Q → RefusedAt es ts p P → RefusedAt es ts q Q → Together ts p q P Q
  together ts p q P Q f g x y =
      elim (cases_order x.0 y.0) [
        | inl e ↦ record {
          same = x.2 ∙ ap (λ z. z + 1) e ∙ sym y.2;
          thread = get_or ts x.0 0;
          cut = x.1;
          left = x.4;
          right =
              subst (Q (get_or ts x.0 0)) (same_cut ts x.0 y.1 x.1 (subst (λ z. Taken es ts z y.1) (sym e) y.3) x.3)
              (subst (λ z. Q (get_or ts z 0) y.1) (sym e) y.4);
        }
        | inr e ↦ elim e [
          | inl l ↦ absurd (no_further ts x.0 y.0 x.1 y.1 x.3 y.3 l (f (get_or ts x.0 0) x.1 x.4))
          | inr l ↦ absurd (no_further ts y.0 x.0 y.1 x.1 y.3 x.3 l (g (get_or ts y.0 0) y.1 y.4))
        ]
      ]
