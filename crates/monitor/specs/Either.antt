-- The meaning of one of two monitors: that of the one it is.
use Rattle.monitor.specs.declared.either.Either.{Either}
use Rattle.monitor.specs.declared.either.Either.TheVariants.{Left, Right}
use Rattle.monitor.specs.Meaning.{Meaning}

abbrev pub either : {L R : Type 0} → (L → Meaning) → (R → Meaning) → Either L R → Meaning
either f g (Left l) = f l
either f g (Right r) = g r
