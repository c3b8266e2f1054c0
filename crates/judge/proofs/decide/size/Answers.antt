use Rattle.std.proofs.Common.{◌≡◌, sum, ◌∙◌, rules, arith}
use Rattle.std.proofs.iter.runs.Sources.{sums}
use Rattle.judge.proofs.Deciding.{size_is}
use Rattle.judge.proofs.decide.size.Goals as goal

-- eight counts of at most 255
pub sum-requires-clause-fits : goal.sum-requires-clause-fits
sum-requires-clause-fits c = search (rules, sums)

pub returns : goal.returns
returns c =
    let e : c.sum.result ≡ sum c.args.cut = search (rules, sums) in
    e ∙ size_is c.args.cut (omega (arith, c.well_formed))
