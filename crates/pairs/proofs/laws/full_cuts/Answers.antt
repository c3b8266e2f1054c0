use Rattle.pairs.proofs.laws.full_cuts.Goals as goal
use Rattle.pairs.proofs.Steps.{given}
use Rattle.pairs.proofs.Levels.{full_by_counts, full_by_sum}

pub returns : goal.returns
returns c = record {
  counts = λ o es n m r. full_by_counts es n m (given o es n r);
  sum = λ o es n m r. full_by_sum es n m (given o es n r);
}
