use Rattle.explore.proofs.Ordered.{ordered}
use Rattle.explore.proofs.theorems.rows_are_ordered.Goals as goal

pub returns : goal.returns
returns g c = ordered
