use Rattle.std.proofs.lemmas.Result.{err_from_is_err_and}
use Rattle.trace.specs.Meaning.{opening_of, noted_of}
use Rattle.predictor.proofs.Ruling.{rule_made, search_fault}
use Rattle.predictor.proofs.judging.judge_rule.Goals as goal

pub returns-in_err-judge : goal.returns-in_err-judge
returns-in_err-judge c =
    let p = err_from_is_err_and c.from_residual-in_err-judge.result c.from_residual-in_err-judge.ensures.1 in
    let made = rule_made (opening_of c.args.trace.now) c.args.recording.now.rule.now c.make.result c.in_ok-formula.formula c.in_ok-formula.ensures.cases c.make.ensures.made c.make.ensures.watches in
    search_fault (opening_of c.args.trace.now) (noted_of c.args.trace.now) c.args.recording.now.rule.now c.args.recording.now.rule_place c.args.pairs.now c.judge.new.rows
    c.args.threads.now c.judge.new.threads c.in_ok-formula.formula _ _ _ p.1 p.2 made.0 c.in_err-judge.ensures.judged

pub returns : goal.returns
returns c =
    let made = rule_made (opening_of c.args.trace.now) c.args.recording.now.rule.now c.make.result c.in_ok-formula.formula c.in_ok-formula.ensures.cases c.make.ensures.made c.make.ensures.watches in
    (c.in_ok-formula.formula, made.0, made.1, c.in_ok-judge.ensures.judged, c.in_ok-judge.ensures.none, c.in_ok-judge.ensures.found)
