-- Refusals by the first that fits.
use Rattle.std.specs.Prelude.{Bool, cond, List, [], ◌∷◌, Some, None, Ok, Err, Option, Result}

-- the first of the list whose test holds
abbrev pub first_fit : {R : Type 0} → List (Bool × R) → Option R
first_fit [] = None
first_fit (p ∷ ps) = cond p.0 (Some p.1) (first_fit ps)

-- a check's answer, where the reason to refuse is given
abbrev pub told : {R : Type 0} → Option R → Result (Unit {0}) R
told (Some why) = Err why
told None = Ok tt
