use Rattle.pairs.proofs.laws.levels.Goals as goal
use Rattle.pairs.proofs.Steps.{given}
use Rattle.pairs.proofs.Levels.{levelled, level_is, told}

pub returns : goal.returns
returns c = record {
  levelled = λ o es n m r. (levelled es n m (given o es n r), level_is es n m (given o es n r));
  told = told;
}
