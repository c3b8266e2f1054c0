-- The step of an automaton on codes.
use Rattle.std.specs.Prelude.{ℕ, Bool, cond, not, ◌&&◌, List, ◌==◌, nat_lt}
use Rattle.std.specs.List.{list_any}
use Rattle.codes.specs.Codes.{bit_of, code_of, some}
use Rattle.events.specs.declared.event.Action.{Action}
use Rattle.automaton.specs.declared.arc.Arc.{Arc}
use Rattle.automaton.specs.Arcs.{matching}

-- the action matches the arc, which leaves the state p
abbrev pub leaves : Action → ℕ → Arc → Bool
leaves a p arc = arc.from == p && matching a arc

-- a state of the code, other than the bad one, leaves by the arc
abbrev pub leaving : ℕ → ℕ → Action → Arc → Bool
leaving bad c a arc = not (arc.from == bad) && (bit_of c arc.from && matching a arc)

-- whether the action moves the state p to the state s
unfoldable pub goes : ℕ → List Arc → Action → ℕ → ℕ → Bool
goes bad arcs a p s =
    cond (p == bad) (s == p)
    (cond (list_any (leaves a p) arcs) (list_any (λ arc. leaves a p arc && s == arc.to) arcs) (s == p))

-- The code after the action, of n states: those that some state of the code moves to. Bits of no state are ignored and cleared.
unfoldable pub stepped : ℕ → ℕ → List Arc → ℕ → Action → ℕ
stepped n bad arcs c a = code_of n (λ s. some n (λ p. bit_of c p && goes bad arcs a p s))

-- The code has the bad state's bit. A bad state that is no state makes no code bad.
abbrev pub is_bad : ℕ → ℕ → ℕ → Bool
is_bad n bad c = nat_lt bad n && bit_of c bad
