use Rattle.std.proofs.Common.{◌≡◌, ◌-◌, List, ◌∷◌, length, ℤ, vec_items}
use Rattle.grammar.specs.Recording.{Piece, closing, values}
use Rattle.text.specs.Standing.{Stand, trim}
use Rattle.text.proofs.Loops.{ValuesLeft}
use Rattle.text.proofs.build.values.Given as goal

abbrev pub invariant-loop-part : goal.invariant-loop-part
invariant-loop-part l =
    (whole ps rest : List Piece) (zs : List ℤ) → Stand whole l.initial.reader ps → trim ps ≡ values zs (closing ∷ rest) → ValuesLeft whole l.reader rest zs (vec_items l.values)

abbrev pub decreases-loop-part : goal.decreases-loop-part
decreases-loop-part l = length l.reader.text.now - l.reader.at
