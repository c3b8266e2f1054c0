-- Arcs, and which actions match them.
use Rattle.std.specs.Prelude.{ℕ, Bool, true, cond, ◌&&◌, ℤ, ◌==◌, int_lt, Some, None, Option, Result, ok_or}
use Rattle.std.specs.Result.{result_unwrap_or}
use Rattle.events.specs.Noting.{eq_z}
use Rattle.events.specs.declared.event.Action.{Action}
use Rattle.automaton.specs.declared.arc.Arc.{Arc}
use Rattle.automaton.specs.declared.comparison.Comparison.{Comparison}
use Rattle.automaton.specs.declared.comparison.Comparison.TheVariants.{Equal, Less, Greater, Any}
use Rattle.automaton.specs.declared.comparison.NoComparison.{NoComparison}

-- the comparison with this number
abbrev pub comparison_of : ℕ → Option Comparison
comparison_of number =
    cond (number == 0) (Some Equal) (cond (number == 1) (Some Less) (cond (number == 2) (Some Greater) (cond (number == 3) (Some Any) None)))

-- the same as an answer: the comparison, or that the number is none's
abbrev pub comparison_with : ℕ → Result Comparison NoComparison
comparison_with number = ok_or (comparison_of number) (record {})

-- whether the value compares so with the constant
abbrev pub holds : Comparison → ℤ → ℤ → Bool
holds Equal value constant = eq_z value constant
holds Less value constant = int_lt value constant
holds Greater value constant = int_lt constant value
holds Any value constant = true

-- Whether it compares with the constant as the comparison's number says. A number that is none's, which no automaton's arc has, is taken for any.
abbrev pub compares : ℕ → ℤ → ℤ → Bool
compares number value constant = holds (result_unwrap_or (comparison_with number) Any) value constant

abbrev pub matching : Action → Arc → Bool
matching a arc =
    (arc.kind == a.kind) && (arc.subject == a.subject && compares arc.comparison a.value arc.constant)
