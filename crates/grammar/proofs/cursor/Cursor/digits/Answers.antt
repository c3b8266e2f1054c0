use Rattle.std.proofs.Common.{ℕ, ◌+◌, [], ◌∷◌, sym, ap, ◌∙◌}
use Rattle.grammar.specs.Reading.{run_at}
use Rattle.grammar.proofs.Digits.{digits_passed}
use Rattle.grammar.proofs.cursor.Cursor.digits.Goals as goal

pub returns-clause-moves : goal.returns-clause-moves
returns-clause-moves c =
    let at = c.args.self.now.at in
    let text = c.args.self.now.text.now in
    λ s nd. digits_passed c.args.most s at text nd ∙ ap (λ (k : ℕ). run_at (s ∷ []) (at + k) text) (sym c.digits_ahead.ensures)
