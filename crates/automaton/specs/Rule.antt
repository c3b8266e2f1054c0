-- The moves of a nondeterministic automaton, and where it can be after a run.
use Rattle.std.specs.Prelude.{◌≡◌, ℕ, ◌<◌, true, List, [], ◌∷◌, ◌≢◌, Contains}
use Rattle.codes.specs.Codes.{bit_of}
use Rattle.events.specs.declared.event.Action.{Action}
use Rattle.automaton.specs.declared.arc.Arc.{Arc}
use Rattle.automaton.specs.Arcs.{matching}

-- The action moves the state p to the state s: the bad state stays, any other goes along a matching arc, or stays if no arc of its own matches.
pub data Moves (bad : ℕ) (arcs : List Arc) (a : Action) (p s : ℕ) : Type 0 where
  rests : p ≡ bad → s ≡ p → Moves bad arcs a p s
  along : (p ≢ bad) → (arc : Arc) → Contains arcs arc → arc.from ≡ p → matching a arc ≡ true → s ≡ arc.to → Moves bad arcs a p s
  stays : (p ≢ bad) → ((arc : Arc) → Contains arcs arc → arc.from ≡ p → matching a arc ≢ true) → s ≡ p → Moves bad arcs a p s

-- one of the n states, whose bit the code has, moves to s
abbrev pub Reaches : ℕ → ℕ → List Arc → ℕ → Action → ℕ → Type 0
Reaches n bad arcs c a s = (p : ℕ) × (p < n) × ((bit_of c p ≡ true) × Moves bad arcs a p s)

-- A path of moves between two of the n states, action by action.
pub data Path (n bad : ℕ) (arcs : List Arc) : ℕ → List Action → ℕ → Type 0 where
  stop : {s : ℕ} → Path n bad arcs s [] s
  move : {p q s : ℕ} {a : Action} {actions : List Action} → p < n → Moves bad arcs a p q → Path n bad arcs q actions s → Path n bad arcs p (a ∷ actions) s

-- the automaton can be in the state s after the actions
abbrev pub CanBe : ℕ → ℕ → ℕ → List Arc → List Action → ℕ → Type 0
CanBe n start bad arcs actions s = Path n bad arcs start actions s
