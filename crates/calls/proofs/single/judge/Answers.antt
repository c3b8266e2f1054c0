use Rattle.std.proofs.Common.{refl}
use Rattle.calls.proofs.Rising.{one_more}
use Rattle.calls.proofs.single.judge.Goals as goal

pub returns-clause-more : goal.returns-clause-more
returns-clause-more g c = one_more _ _ _ _ (c.judge.result, c.judge.new.rows, c.judge.new.threads, refl, c.judge.ensures.judged) _ _ refl refl
