use Rattle.std.proofs.Common.{◌≡◌, ℕ, false, List, is_some, sym, refl, subst, rules}
use Rattle.events.specs.declared.event.Event.{Event}
use Rattle.events.specs.Noting.{Noted}
use Rattle.order.proofs.Noting.{within_of}
use Rattle.monitor.specs.Meaning.{Meaning}
use Rattle.trace.specs.Meaning.{opening_of, noted_of}
use Rattle.follow.specs.Balance.{ThreadsBelow}
use Rattle.follow.specs.Made.{MadeOf}
use Rattle.replay.specs.Outcome.{Outcome}
use Rattle.calls.specs.Replays.{Replays}
use Rattle.trace.proofs.Bounds.{opening_few}
use Rattle.calls.proofs.Traces.{noted_in}
use Rattle.calls.proofs.Replayed.{when_open, granted}
use Rattle.calls.proofs.Rising.{one_more}
use Rattle.calls.proofs.replaying.replay.Goals as goal

pub returns-in_err-map_err-clause-more : goal.returns-in_err-map_err-clause-more
returns-in_err-map_err-clause-more g c =
    let t = c.args.trace.now in
    let replays : Replays (opening_of t) (noted_of t) (g.M.Monitor.meaning c.args.monitor.now) c.args.threads.now c.from_residual.result = search rules in
    one_more _ _ _ _ (c.from_residual.result, refl, replays) _ _ refl refl

pub returns : goal.returns
returns g c =
    let t = c.args.trace.now in
    let m : Meaning = g.M.Monitor.meaning c.args.monitor.now in
    let ts : List ℕ = c.args.threads.now in
    let valid : is_some (opening_of t).void ≡ false = search rules in
    let is = c.events.ensures.value in
    let made : MadeOf (noted_of t) c.make-tables.result
    = subst (λ (es : List Event). MadeOf es c.make-tables.result) is
    (c.make-tables.ensures (opening_of t) (opening_few t) (subst (λ (es : List Event). Noted (opening_of t) es) (sym is) (noted_in t))) in
    let along : Outcome m (noted_of t) (opening_of t).threads ts c.replay.result
    = subst (λ (n : ℕ). Outcome m (noted_of t) n ts c.replay.result) c.threads.ensures
    (c.replay.ensures (noted_of t) made (subst (λ (n : ℕ). ThreadsBelow (noted_of t) n) (sym c.threads.ensures) (within_of (opening_of t) (noted_of t) (noted_in t)).threads)) in
    let replays : Replays (opening_of t) (noted_of t) m ts c.replay.result = when_open (opening_of t) (noted_of t) m ts c.replay.result valid along in
    record {
      replays = replays;
      granted = granted (opening_of t) (noted_of t) m ts c.replay.result replays;
      more = one_more _ _ _ _ (c.replay.result, refl, replays) _ _ refl refl;
    }
