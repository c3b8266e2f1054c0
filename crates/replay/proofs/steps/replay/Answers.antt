use Rattle.std.proofs.Common.{rules, ◌≡◌, ℕ, suc, ◌+◌, ◌<◌, ◌≤◌, List, Ok, Err, Result, [], ◌∷◌, ◌++◌, length, get_or, take, set, sym, refl, ap, ◌∙◌, subst, ap₂, arith, take_all}
use Rattle.std.proofs.lemmas.List.{length-set, take_more}
use Rattle.std.proofs.lemmas.Bool.Decides.{Decides-at}
use Rattle.events.specs.declared.event.Action.{Action}
use Rattle.events.specs.declared.event.Event.{Event}
use Rattle.events.specs.Events.{action_of}
use Rattle.order.specs.Trace.{thread_at, place_at}
use Rattle.order.specs.Runs.{thread_list, RunOf}
use Rattle.order.specs.Cuts.{Cut, Reach}
use Rattle.order.specs.Cuts.Reach.{start, onward}
use Rattle.order.specs.Reached.{cut_of}
use Rattle.monitor.specs.declared.runs.Verdict.{Verdict}
use Rattle.monitor.specs.Meaning.{Meaning, ran}
use Rattle.monitor.proofs.Ends.{end_tells}
use Rattle.follow.specs.declared.tables.Tables.{Tables}
use Rattle.follow.specs.declared.no_next.NoNext.{NoNext}
use Rattle.follow.specs.declared.no_next.NoNext.TheVariants as because
use Rattle.follow.specs.Balance.{ThreadsBelow}
use Rattle.follow.specs.Answers.{Answers}
use Rattle.follow.specs.Made.{MadeOf}
use Rattle.replay.specs.declared.refusal.ReplayRefusal.{ReplayRefusal}
use Rattle.replay.specs.declared.refusal.ReplayRefusal.TheVariants as refusal
use Rattle.replay.specs.Refusals.{refusal_at}
use Rattle.replay.specs.Outcome.{actions_of, RefusedAt, Refused, Outcome}
use Rattle.replay.proofs.Along.{cut_start, cut-more, ran_more, threads_more, length_threads, all_run, no_run}
use Rattle.replay.proofs.steps.replay.Goals as goal

-- what is refused lists no run
refuse : (es : List Event) (v : Tables) → MadeOf es v → (n : ℕ) → ThreadsBelow es n → (ts : List ℕ) (why : ReplayRefusal) → Refused es n ts why
    → Refused es n ts why × (RunOf es ts → ⊥)
refuse es v made n few ts why h = (h, no_run es made.sound n few ts why h)

stepped : (m : Meaning) (code new : ℕ) (a : Action) (e : Event) → new ≡ m.step code a → a ≡ action_of e → new ≡ m.step code (action_of e)
stepped m code new a e h q = h ∙ ap (m.step code) q

-- the events taken so far
abbrev SoFar : Meaning → List Event → List ℕ → List ℕ → ℕ → ℕ → Type 0
SoFar m es ts cut k code = (r : List ℕ) × Reach es r (cut_of cut) × (thread_list es r ≡ take k ts) × (code ≡ ran m (actions_of es r))

-- where no event of the thread comes next
refused_at : (es : List Event) (n : ℕ) (ts : List ℕ) (p : ℕ) (why : NoNext) → RefusedAt es ts p (λ t c. (t < n) × Answers es c t (Err why)) → Refused es n ts (refusal_at p why)
refused_at es n ts p because.Done h = h
refused_at es n ts p because.Missing h = h
refused_at es n ts p because.Blocked h = h

module _ (m : Meaning) (es : List Event) (v : Tables) (made : MadeOf es v) (ts cut : List ℕ) (k code : ℕ)
    (even : length ts ≡ v.total) (ahead : k < length ts) (far : SoFar m es ts cut k code) where
  at : (P : ℕ → Cut → Type 0) → P (get_or ts k 0) (cut_of cut) → RefusedAt es ts (k + 1) P
  at P h = (
    k,
    cut_of cut,
    refl,
    record { even = even ∙ made.total; ahead = ahead; events = far.0; reach = far.1; threads = far.2 },
    h,
  )

  none_comes : (n : ℕ) → ThreadsBelow es n → get_or ts k 0 < n
      → (why : NoNext) (answer : Result Event NoNext) → answer ≡ Err why → Answers es (cut_of cut) (get_or ts k 0) answer
      → (outcome : Result Verdict ReplayRefusal) → outcome ≡ Err (refusal_at (k + 1) why) → Outcome m es n ts outcome
  none_comes n few below why answer told right outcome is =
      subst (Outcome m es n ts) (sym is)
      (refuse es v made n few ts (refusal_at (k + 1) why)
      (refused_at es n ts (k + 1) why
      (at (λ t d. (t < n) × Answers es d t (Err why)) (below, subst (Answers es (cut_of cut) (get_or ts k 0)) told right))))

  -- one more
  on : (e : Event) → Answers es (cut_of cut) (get_or ts k 0) (Ok e) → get_or ts k 0 < length cut → (new : ℕ) → new ≡ m.step code (action_of e)
      → SoFar m es ts (set cut (get_or ts k 0) e.place) (k + 1) new
  on e a small new is =
      let t : ℕ = get_or ts k 0 in
      let i = a.0 in
      let place : place_at es i ≡ suc (get_or cut t 0) = a.1.next ∙ ap (λ u. suc (get_or cut u 0)) a.2 in
      let own : e.place ≡ place_at es i = ap (λ (z : Event). z.place) a.3 in (
        far.0 ++ i ∷ [],
        subst (Reach es (far.0 ++ i ∷ [])) (cut-more cut t (thread_at es i) e.place small a.2 (own ∙ place)) (onward i far.1 a.1),
        threads_more es far.0 i ∙ ap₂ (λ x y. x ++ y ∷ []) far.2 a.2 ∙ sym (take_more ts k 0 ahead),
        is ∙ ap₂ (λ x y. m.step x (action_of y)) far.3 a.3 ∙ sym (ran_more m es far.0 i),
      )

pub returns-then-threads-total : goal.returns-then-threads-total
returns-then-threads-total g c = λ es made few.
    refuse es c.args.tables.now made c.args.count few c.args.threads.now refusal.Length
    (λ e. c.if-threads-total.true (e ∙ sym made.total ∙ sym c.total.ensures))

pub loop-k-init : goal.loop-k-init
loop-k-init g c = (λ es made. ([], subst (Reach es []) (sym cut_start) start, refl, c.start-code.ensures), refl)

pub returns-then-thread-count : goal.returns-then-thread-count
returns-then-thread-count g c = λ es made few.
    refuse es c.args.tables.now made c.args.count few c.args.threads.now (refusal.Thread (c.loop-k.k-counter + 1))
    (at (g.M.Monitor.meaning c.args.monitor.now) es c.args.tables.now made c.args.threads.now c.loop-k.cut c.loop-k.k-counter c.loop-k.code
    (c.if-threads-total.false ∙ c.total.ensures) c.loop-k-test.true (c.loop-k.invariant.0 es made) (λ t d. c.args.count ≤ t) c.if-thread-count.true)

pub returns-in_err-event : goal.returns-in_err-event
returns-in_err-event g c = λ es made few.
    let told : (why : NoNext) × (c.next.result ≡ Err why) × (c.from_residual.result ≡ Err (refusal_at (c.loop-k.k-counter + 1) why)) = search rules in
    let far = c.loop-k.invariant.0 es made in
    none_comes (g.M.Monitor.meaning c.args.monitor.now) es c.args.tables.now made c.args.threads.now c.loop-k.cut c.loop-k.k-counter c.loop-k.code
    (c.if-threads-total.false ∙ c.total.ensures) c.loop-k-test.true far c.args.count few c.if-thread-count.false
    told.0 c.next.result told.1 (c.next.ensures.answers es made (far.0, far.1)) c.from_residual.result told.2

pub loop-k-preserved : goal.loop-k-preserved
loop-k-preserved g c =
    let t : ℕ = get_or c.args.threads.now c.loop-k.k-counter 0 in
    let m : Meaning = g.M.Monitor.meaning c.args.monitor.now in
    let event : Event = c.in_ok-event.event in
    let told : c.next.result ≡ Ok event = search rules in
    let few : t < 8 = (c.next.ensures.more event told).0 in
    let small : t < length c.loop-k.cut = omega (arith, c.loop-k.invariant.1) in (
      λ es made.
          let far = c.loop-k.invariant.0 es made in
          let next : Answers es (cut_of c.loop-k.cut) t (Ok event) = subst (Answers es (cut_of c.loop-k.cut) t) told (c.next.ensures.answers es made (far.0, far.1)) in
          on m es c.args.tables.now made c.args.threads.now c.loop-k.cut c.loop-k.k-counter c.loop-k.code
          (c.if-threads-total.false ∙ c.total.ensures) c.loop-k-test.true far
          event next small c.step-code.result
          (stepped m c.loop-k.code c.step-code.result c.action.result event c.step-code.ensures c.action.ensures),
      length-set c.loop-k.cut t event.place ∙ c.loop-k.invariant.1,
    )

pub returns : goal.returns
returns g c = λ es made few.
    let m : Meaning = g.M.Monitor.meaning c.args.monitor.now in
    let ts : List ℕ = c.args.threads.now in
    let far = c.loop-k.invariant.0 es made in
    let all : thread_list es far.0 ≡ ts = far.2 ∙ take_all _ _ c.loop-k-test.false in
    let even : length ts ≡ length es = c.if-threads-total.false ∙ c.total.ensures ∙ made.total in
    let long : length es ≤ length far.0 = omega (arith, length_threads es far.0, ap length all) in
    record {
      run = far.0;
      consistent = all_run es made.sound far.0 _ far.1 long;
      threads = all;
      ends = far.3;
      told = c.bad-violated.ensures;
      violates = Decides-at _ _ (c.bad-violated.ensures ∙ ap m.bad far.3) (end_tells m (actions_of es far.0));
    }
