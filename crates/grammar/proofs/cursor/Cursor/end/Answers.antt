use Rattle.std.proofs.Common.{[], ◌∷◌, sym, refl, ◌∙◌, arith}
use Rattle.grammar.proofs.Steps.{stops}
use Rattle.grammar.proofs.cursor.Cursor.end.Goals as goal

pub returns-then-self : goal.returns-then-self
returns-then-self c =
    let at = c.args.self.now.at in
    let text = c.args.self.now.text.now in
    stops ([] ∷ []) at text (omega arith) refl ∙ sym (stops [] at text (omega arith) refl) ∙ c.flaw.ensures
