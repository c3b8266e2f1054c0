use Rattle.std.proofs.Common.{◌≡◌, ℕ, suc, ◌+◌, ◌<◌, Bool, true, false, None, List, get_or, Ok, Err, ap, ◌∙◌, subst, arith}
use Rattle.events.specs.declared.event.Event.{Event}
use Rattle.order.specs.Trace.{blank}
use Rattle.order.specs.Waiting.{HasNext, Missing}
use Rattle.order.specs.Reached.{cut_of}
use Rattle.std.proofs.lemmas.Bool.Decides.{not_from_Decides}
use Rattle.follow.specs.declared.tables.Standing.{Standing}
use Rattle.follow.specs.declared.tables.Tables.{Tables}
use Rattle.follow.specs.declared.no_next.NoNext.TheVariants as because
use Rattle.follow.specs.Balance.{Reached}
use Rattle.follow.specs.Answers.{Answers}
use Rattle.follow.specs.Looking.{HasSource, BlockedBy}
use Rattle.follow.specs.Made.{slot_of, standing_in, MadeOf}
use Rattle.follow.proofs.Looking.{next_of, none_next, event_here, none_missing, one_missing, is_free, is_blocked, follows}
use Rattle.follow.proofs.Telling.{blocked_next, free_next}
use Rattle.follow.proofs.tables.Tables.next.Goals as goal

-- where the thread's next event stands
at_next : (v : Tables) (t p at : ℕ) → at ≡ slot_of t (p + 1) → get_or v.standings at (record { event = blank; source = None }) ≡ standing_in v t (suc p)
at_next v t p at e =
    let q : at ≡ slot_of t (suc p) = omega arith in
    ap (λ z. get_or v.standings z (record { event = blank; source = None })) q

module _ (es : List Event) (v : Tables) (made : MadeOf es v) (cut : List ℕ) (reached : Reached es (cut_of cut)) (t : ℕ)
    (few : t < 8) (more : get_or cut t 0 < get_or v.counts t 0) (standing : Standing) (is : standing ≡ standing_in v t (suc (get_or cut t 0))) where
  abbrev Has : Standing → Type 0
  Has x = HasSource cut x.source

  next : (i : ℕ) × HasNext es (cut_of cut) t i
  next = next_of es v made cut t few more

  missing : (Has standing → ⊥) → Answers es (cut_of cut) t (Err because.Missing)
  missing out = (next.0, next.1, one_missing es v made cut reached t next.0 next.1 (subst (λ x. Has x → ⊥) is out))

  full : Has standing → Missing es (cut_of cut) next.0 → ⊥
  full has = none_missing es v made cut reached t next.0 next.1 (subst Has is has)

  event : standing.event ≡ get_or es next.0 blank
  event = ap (λ (x : Standing). x.event) is ∙ event_here es v made cut reached t next.0 next.1

  blocked : Has standing → (r : Bool) → BlockedBy v cut standing.event r → r ≡ true → Answers es (cut_of cut) t (Err because.Blocked)
  blocked has r h q = (next.0, next.1, full has, is_blocked es v made cut reached t next.0 next.1 (full has) _ event r h q)

  follows_next : Has standing → (r : Bool) → BlockedBy v cut standing.event r → r ≡ false → Answers es (cut_of cut) t (Ok standing.event)
  follows_next has r h q = (
    next.0,
    follows es v made cut reached t next.0 next.1 (full has) (is_free es v made cut reached t next.0 next.1 (full has) _ event r h q),
    next.1.own,
    event,
  )

pub returns-then-done-self-clause-answers : goal.returns-then-done-self-clause-answers
returns-then-done-self-clause-answers c = λ es made reached.
    none_next es c.args.self.now made c.args.cut c.args.thread c.if-thread-ge8.false c.if-done-self.true

pub returns-then-not-supplied-clause-answers : goal.returns-then-not-supplied-clause-answers
returns-then-not-supplied-clause-answers c = λ es made reached.
    missing es c.args.self.now made c.args.cut reached c.args.thread c.if-thread-ge8.false c.if-done-self.false _ (at_next c.args.self.now c.args.thread (get_or c.args.cut c.args.thread 0) c.slot.result c.slot.ensures)
    (not_from_Decides _ c.supplied.ensures c.if-not-supplied.true)

pub returns-then-blocked-clause-answers : goal.returns-then-blocked-clause-answers
returns-then-blocked-clause-answers c = λ es made reached.
    blocked es c.args.self.now made c.args.cut reached c.args.thread c.if-thread-ge8.false c.if-done-self.false _ (at_next c.args.self.now c.args.thread (get_or c.args.cut c.args.thread 0) c.slot.result c.slot.ensures)
    (c.supplied.ensures.0 c.if-not-supplied.false) _ c.blocked.ensures c.if-blocked.true

pub returns-then-blocked-clause-value : goal.returns-then-blocked-clause-value
returns-then-blocked-clause-value c =
    blocked_next c.args.self.now c.args.cut c.args.thread _ (at_next c.args.self.now c.args.thread (get_or c.args.cut c.args.thread 0) c.slot.result c.slot.ensures) c.if-thread-ge8.false c.if-done-self.false _ c.supplied.ensures _ c.blocked.ensures c.if-not-supplied.false c.if-blocked.true

pub returns-clause-answers : goal.returns-clause-answers
returns-clause-answers c = λ es made reached.
    follows_next es c.args.self.now made c.args.cut reached c.args.thread c.if-thread-ge8.false c.if-done-self.false _ (at_next c.args.self.now c.args.thread (get_or c.args.cut c.args.thread 0) c.slot.result c.slot.ensures)
    (c.supplied.ensures.0 c.if-not-supplied.false) _ c.blocked.ensures c.if-blocked.false

pub returns-clause-value : goal.returns-clause-value
returns-clause-value c =
    free_next c.args.self.now c.args.cut c.args.thread _ (at_next c.args.self.now c.args.thread (get_or c.args.cut c.args.thread 0) c.slot.result c.slot.ensures) c.if-thread-ge8.false c.if-done-self.false _ c.supplied.ensures _ c.blocked.ensures c.if-not-supplied.false c.if-blocked.false
