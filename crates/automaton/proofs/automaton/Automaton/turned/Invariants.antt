use Rattle.std.proofs.Common.{take}
use Rattle.automaton.specs.Moves.{leaving}
use Rattle.automaton.proofs.Turns.{Marks}
use Rattle.automaton.proofs.automaton.Automaton.turned.Given as goal

abbrev pub invariant-loop-arc : goal.invariant-loop-arc
invariant-loop-arc l =
    Marks (leaving l.self.bad l.code l.action) (λ arc. arc.from) (take l.arc-index l.self.arcs.now) l.left
    × Marks (leaving l.self.bad l.code l.action) (λ arc. arc.to) (take l.arc-index l.self.arcs.now) l.reached
