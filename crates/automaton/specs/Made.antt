-- Which automata are made, and why one is refused.
use Rattle.std.specs.Prelude.{ℕ, Bool, ◌||◌, List, [], ◌∷◌, Option, ◌==◌, nat_le, nat_lt}
use Rattle.std.specs.List.{list_any}
use Rattle.events.specs.First.{first_fit}
use Rattle.automaton.specs.declared.arc.Arc.{Arc}
use Rattle.automaton.specs.declared.fault.AutomatonFault.{AutomatonFault}
use Rattle.automaton.specs.declared.fault.AutomatonFault.TheVariants.{States, StartOrBad, Arcs}

-- an arc that no automaton of so many states can have
abbrev pub outside : ℕ → Arc → Bool
outside states arc =
    nat_le states arc.from || (nat_le states arc.to || (nat_lt 4 arc.kind || nat_lt 3 arc.comparison))

-- why an automaton is refused, in the order of the numbers
abbrev pub fault_tests : ℕ → ℕ → ℕ → List Arc → List (Bool × AutomatonFault)
fault_tests states start bad arcs =
    (states == 0 || nat_lt 32 states, States)
    ∷ (nat_le states start || nat_le states bad, StartOrBad)
    ∷ (list_any (outside states) arcs, Arcs)
    ∷ []

abbrev pub fault_number : AutomatonFault → ℕ
fault_number States = 75
fault_number StartOrBad = 76
fault_number Arcs = 77

-- the first reason why there is no automaton of these
abbrev pub refused : ℕ → ℕ → ℕ → List Arc → Option AutomatonFault
refused states start bad arcs = first_fit (fault_tests states start bad arcs)
