-- What the codes of an automaton tell, of a step and of a run.
use Rattle.std.specs.Prelude.{◌≡◌, ℕ, ◌<◌, ◌≤◌, false, List, Decides}
use Rattle.codes.specs.Codes.{bit_of}
use Rattle.events.specs.declared.event.Action.{Action}
use Rattle.monitor.specs.Meaning.{ran, Violates}
use Rattle.automaton.specs.declared.automaton.Automaton.{Automaton}
use Rattle.automaton.specs.Rule.{Reaches, CanBe}
use Rattle.automaton.specs.Meant.{meant}

-- after a step, the bit of a state is set exactly when some state of the code moves to it
abbrev pub StepTells : Automaton → ℕ → Action → ℕ → Type 0
StepTells m c a next =
    (s : ℕ) → s < m.states → Decides (bit_of next s) (Reaches m.states m.bad m.arcs.now c a s)

-- the code has the bit of no number that is no state
abbrev pub OnlyStates : Automaton → ℕ → Type 0
OnlyStates m c = (s : ℕ) → m.states ≤ s → bit_of c s ≡ false

-- s is one of its states, and it can be in s after the actions
abbrev pub CanBeIn : Automaton → List Action → ℕ → Type 0
CanBeIn m actions s =
    (s < m.states) × CanBe m.states m.start m.bad m.arcs.now actions s

-- after a run, a state's bit is set exactly when the automaton can be in that state
abbrev pub BitsTell : Automaton → List Action → Type 0
BitsTell m actions = (s : ℕ) → s < m.states → Decides (bit_of (ran (meant m) actions) s) (CanBeIn m actions s)

-- a run violates exactly when the automaton can be in the bad state after it
abbrev pub BadTells : Automaton → List Action → Type 0
BadTells m actions = (Violates (meant m) actions → CanBeIn m actions m.bad) × (CanBeIn m actions m.bad → Violates (meant m) actions)
