-- What a check answers, as a shape.
use Rattle.std.specs.Prelude.{Ok, Err, Result}
use Rattle.grammar.specs.Recording.{Shape, whole, wrong, early}
use Rattle.grammar.specs.declared.flaw.Flaw.{Flaw}
use Rattle.grammar.specs.declared.flaw.Flaw.TheVariants.{Wrong, Early}

abbrev pub flawed : Flaw → Shape
flawed (Wrong k) = wrong k
flawed Early = early

abbrev pub shape_of : Result (Unit {0}) Flaw → Shape
shape_of (Ok u) = whole
shape_of (Err e) = flawed e
