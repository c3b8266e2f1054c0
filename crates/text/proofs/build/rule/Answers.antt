use Rattle.std.proofs.Common.{Ok, Err}
use Rattle.std.proofs.lemmas.Result.{err_from_is_err_and}
use Rattle.text.proofs.Loops.{ended_err, rule_ended, rule_passed}
use Rattle.text.proofs.build.rule.Goals as goal

pub returns-in_err-behind : goal.returns-in_err-behind
returns-in_err-behind c whole ps stand roles =
    let p = err_from_is_err_and c.from_residual.result c.from_residual.ensures.1 in
    ended_err whole p.1 p.2
    (rule_passed c.next.new.self c.in-Some.token (Err c.in_err-behind.field-0.0) (c.loop-token.invariant whole ps stand roles) c.next.ensures.text c.in-Some.ensures.token c.in_err-behind.ensures)

pub loop-token-preserved : goal.loop-token-preserved
loop-token-preserved c whole ps stand roles =
    rule_passed c.next.new.self c.in-Some.token (Ok c.in_ok-behind.behind) (c.loop-token.invariant whole ps stand roles) c.next.ensures.text c.in-Some.ensures.token c.in_ok-behind.ensures

pub returns : goal.returns
returns c whole ps stand roles =
    rule_ended c.next.new.self (c.loop-token.invariant whole ps stand roles) c.next.ensures.text c.in_default.ensures.token
