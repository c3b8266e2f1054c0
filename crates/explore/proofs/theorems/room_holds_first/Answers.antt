use Rattle.explore.proofs.Fronts.{room}
use Rattle.explore.proofs.theorems.room_holds_first.Goals as goal

pub returns : goal.returns
returns g c = room
