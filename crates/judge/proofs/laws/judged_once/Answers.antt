use Rattle.judge.proofs.laws.judged_once.Goals as goal
use Rattle.judge.proofs.Once.{judged_once}

pub returns : goal.returns
returns c = judged_once
