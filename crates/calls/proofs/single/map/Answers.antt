use Rattle.std.proofs.Common.{refl}
use Rattle.calls.proofs.Rising.{one_more}
use Rattle.calls.proofs.single.map.Goals as goal

pub returns-clause-more : goal.returns-clause-more
returns-clause-more c = one_more _ _ _ _ (c.map.result, c.map.new.rows, refl, c.map.ensures.mapped) _ _ refl refl
