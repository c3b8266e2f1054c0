use Rattle.std.proofs.Common.{refl, ◌∙◌}
use Rattle.grammar.specs.Machine.{rest}
use Rattle.grammar.specs.Reading.{body}
use Rattle.grammar.proofs.Choice.{expand}
use Rattle.grammar.proofs.Heads.{told}
use Rattle.grammar.proofs.cursor.Cursor.line_word.Goals as goal

pub returns-clause-moves : goal.returns-clause-moves
returns-clause-moves c = λ s.
    expand rest s c.args.self.now.at c.args.self.now.text.now refl
    ∙ told c.one_of.ensures.one (body s) (λ u. (refl, (refl, (refl, (refl, (refl, (refl, tt)))))))
