use Rattle.follow.proofs.theory.balance.Goals as goal
use Rattle.follow.proofs.Balance.{balance}

pub returns : goal.returns
returns c = balance
