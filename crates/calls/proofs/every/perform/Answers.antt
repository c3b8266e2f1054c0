use Rattle.std.proofs.Common.{◌<◌, ◌≤◌, length, arith}
use Rattle.trace.specs.Meaning.{opening_of, noted_of}
use Rattle.calls.proofs.Going.{going_more, going_all}
use Rattle.calls.proofs.Held.{lawful}
use Rattle.calls.proofs.Rising.{extends}
use Rattle.trace.proofs.Bounds.{opening_few}
use Rattle.calls.proofs.Traces.{noted_in}
use Rattle.calls.proofs.every.perform.Goals as goal

pub loop-call-preserved : goal.loop-call-preserved
loop-call-preserved g c =
    let lt : c.loop-call.call-index < length c.loop-call.calls = omega arith in
    going_more _ _ _ _ _ _ _ _ _ _ c.loop-call.invariant c.call-item.result c.perform_one.new.call (opening_of c.perform_one.new.trace)
    (noted_of c.perform_one.new.trace) lt
    c.perform_one.ensures.gives c.perform_one.ensures.keeps c.perform_one.ensures.noted c.perform_one.ensures.opening

pub returns-clause-lawful : goal.returns-clause-lawful
returns-clause-lawful g c =
    let past : length c.loop-call.calls ≤ c.loop-call.call-index = omega arith in
    let t = c.args.trace.now in
    lawful _ _ _ _ _ (noted_in t) (opening_few t).0 (going_all _ _ _ _ _ _ _ _ _ _ c.loop-call.invariant past)

pub returns-clause-more : goal.returns-clause-more
returns-clause-more g c =
    let past : length c.loop-call.calls ≤ c.loop-call.call-index = omega arith in
    extends _ _ _ _ _ (going_all _ _ _ _ _ _ _ _ _ _ c.loop-call.invariant past) _ c.loop-call.invariant.opens
