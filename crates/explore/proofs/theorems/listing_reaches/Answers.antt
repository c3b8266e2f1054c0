use Rattle.explore.proofs.Paths.{reaches}
use Rattle.explore.proofs.theorems.listing_reaches.Goals as goal

pub returns : goal.returns
returns g c = reaches
