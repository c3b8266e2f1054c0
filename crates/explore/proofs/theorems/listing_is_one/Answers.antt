use Rattle.explore.proofs.Fronts.{one}
use Rattle.explore.proofs.theorems.listing_is_one.Goals as goal

pub returns : goal.returns
returns g c = one
