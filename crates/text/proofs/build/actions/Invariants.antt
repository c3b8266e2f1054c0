use Rattle.std.proofs.Common.{◌≡◌, ◌-◌, List, ◌∷◌, length, vec_items, codes}
use Rattle.events.specs.declared.event.Action.{Action}
use Rattle.grammar.specs.Recording.{All, Piece, Writable, lines, opening, word}
use Rattle.text.specs.Standing.{Stand, trim}
use Rattle.text.proofs.Loops.{ActionsLeft}
use Rattle.text.proofs.build.actions.Given as goal

abbrev pub invariant-loop-kind : goal.invariant-loop-kind
invariant-loop-kind l =
    (whole ps rest : List Piece) (acts : List Action) → All Writable acts → Stand whole l.initial.reader ps → trim ps ≡ lines acts (opening ∷ word (codes "rule") ∷ rest)
    → ActionsLeft whole l.reader rest acts (vec_items l.actions)

abbrev pub decreases-loop-kind : goal.decreases-loop-kind
decreases-loop-kind l = length l.reader.text.now - l.reader.at
