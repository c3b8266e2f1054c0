use Rattle.std.proofs.Common.{◌-◌, refl, ◌∙◌, arith}
use Rattle.grammar.specs.Reading.{inside}
use Rattle.grammar.proofs.Heads.{told, with_room, without_room}
use Rattle.grammar.proofs.cursor.Cursor.formula_word.Goals as goal

pub returns-then-room-gt0-clause-moves : goal.returns-then-room-gt0-clause-moves
returns-then-room-gt0-clause-moves c = λ s.
    with_room c.args.room s c.args.self.now (omega arith)
    ∙ told c.one_of.ensures.one (inside (c.args.room - 1) s)
    (λ u. (refl, (refl, (refl, (refl, (refl, (refl, (refl, (refl, (refl, (refl, (refl, (refl, (refl, tt))))))))))))))

pub returns-else-room-gt0-clause-moves : goal.returns-else-room-gt0-clause-moves
returns-else-room-gt0-clause-moves c = λ s.
    without_room c.args.room s c.args.self.now (omega arith)
    ∙ told c.one_of-else-room-gt0.ensures.one (inside (c.args.room - 1) s) (λ u. (refl, (refl, (refl, (refl, (refl, tt))))))
