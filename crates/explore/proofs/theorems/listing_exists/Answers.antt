use Rattle.explore.proofs.Rounds.{exists}
use Rattle.explore.proofs.theorems.listing_exists.Goals as goal

pub returns : goal.returns
returns g c = exists
