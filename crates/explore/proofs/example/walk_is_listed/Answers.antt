use Rattle.explore.proofs.Walk.{walked}
use Rattle.explore.proofs.example.walk_is_listed.Goals as goal

pub returns : goal.returns
returns c = walked
