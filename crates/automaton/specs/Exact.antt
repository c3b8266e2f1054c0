-- What is known of a new automaton: it is that of what was given, and no move leads out of its states.
use Rattle.std.specs.Prelude.{◌≡◌, ℕ, ◌^◌, ◌<◌, List, Some, None, Ok, Err, Result}
use Rattle.codes.specs.Codes.{bit_of}
use Rattle.events.specs.declared.event.Action.{Action}
use Rattle.automaton.specs.declared.arc.Arc.{Arc}
use Rattle.automaton.specs.declared.automaton.Automaton.{Automaton}
use Rattle.automaton.specs.declared.fault.AutomatonFault.{AutomatonFault}
use Rattle.automaton.specs.Made.{refused}
use Rattle.automaton.specs.Rule.{Moves}
use Rattle.automaton.specs.Meant.{meant}

-- the automaton of what was given, unless that is refused
abbrev pub NewTells : ℕ → ℕ → ℕ → List Arc → Result Automaton AutomatonFault → Type 0
NewTells states start bad arcs (Ok m) =
    (refused states start bad arcs ≡ None) × (m.states ≡ states) × (m.start ≡ start) × (m.bad ≡ bad) × (m.arcs.now ≡ arcs)
NewTells states start bad arcs (Err why) = refused states start bad arcs ≡ Some why

pub record Exact (m : Automaton) : Type 0 where
  pub closed : (a : Action) (p s : ℕ) → p < m.states → Moves m.bad m.arcs.now a p s → s < m.states
  -- the start code has the start state's bit alone
  pub starting : (meant m).start ≡ 2 ^ m.start
  -- a code is bad exactly when it has the bad state's bit
  pub telling : (c : ℕ) → (meant m).bad c ≡ bit_of c m.bad

abbrev pub ExactIfMade : Result Automaton AutomatonFault → Type 0
ExactIfMade (Ok m) = Exact m
ExactIfMade (Err why) = Unit {0}
