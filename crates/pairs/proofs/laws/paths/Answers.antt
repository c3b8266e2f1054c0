use Rattle.pairs.proofs.laws.paths.Goals as goal
use Rattle.pairs.proofs.Steps.{given, next_moves, next-none}
use Rattle.pairs.proofs.Reaching.{goes_reach, reach_goes, paths}

pub returns : goal.returns
returns c = record {
  step = λ o es n m r x t. (next_moves es (given o es n r).sound n m x t, next-none es (given o es n r).sound n m x t);
  reach = λ o es n m r. (goes_reach es n m (given o es n r), reach_goes es n m (given o es n r));
  runs = λ o es n m r. paths es n m (given o es n r);
}
