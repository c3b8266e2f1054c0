use Rattle.std.proofs.Common.{refl}
use Rattle.explore.specs.Paths.{back}
use Rattle.pairs.proofs.laws.examples.Goals as goal

pub returns : goal.returns
unfolding back
returns c = refl
