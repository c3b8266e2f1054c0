use Rattle.std.proofs.Common.{vec_items}
use Rattle.std.proofs.lemmas.Result.{err_from_is_err_and}
use Rattle.text.proofs.Loops.{action_next, actions_more, actions_read, list_err}
use Rattle.text.proofs.build.actions.Goals as goal

pub returns-in_err-action : goal.returns-in_err-action
returns-in_err-action c whole ps rest acts w stand is =
    let p = err_from_is_err_and c.from_residual.result c.from_residual.ensures.1 in
    let next = action_next c.in-Some.kind (c.loop-kind.invariant whole ps rest acts w stand is) c.in-Some.ensures.kind in
    list_err whole rest c.event.new.reader acts p.1 p.2 (c.in_err-action.ensures.taken whole _ _ next.action next.stand next.line)

pub loop-kind-preserved : goal.loop-kind-preserved
loop-kind-preserved c whole ps rest acts w stand is =
    let next = action_next c.in-Some.kind (c.loop-kind.invariant whole ps rest acts w stand is) c.in-Some.ensures.kind in
    actions_more (vec_items c.push.new.self) c.in_ok-action.action next (c.in_ok-action.ensures.taken whole _ _ next.action next.stand next.line) c.in_ok-push.ensures.items

pub returns : goal.returns
returns c whole ps rest acts w stand is = actions_read (c.loop-kind.invariant whole ps rest acts w stand is) c.in_default.ensures.kind
