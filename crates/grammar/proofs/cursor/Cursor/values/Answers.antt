use Rattle.std.proofs.Common.{[], ◌∷◌, ◌∙◌, rules}
use Rattle.grammar.specs.Machine.{n, t, is, tail, vals}
use Rattle.grammar.proofs.Steps.{failed, vals_some, tail_no_digit}
use Rattle.grammar.proofs.cursor.Cursor.values.Goals as goal

pub returns-in_err-integer-clause-moves : goal.returns-in_err-integer-clause-moves
returns-in_err-integer-clause-moves c = λ s.
    failed ((n vals ∷ t (is 41) ∷ s) ∷ []) s c.args.self.now c.integer.new.self c.in_err-integer.field-0.0 c.from_residual.result (search rules)
    (vals_some s c.args.self.now.at c.args.self.now.text.now (λ l e. c.if-pass.ensures.0 (l, e))
    ∙ rw c.if-pass.ensures.1 at (c.in_err-integer.ensures.moves (n tail ∷ t (is 41) ∷ s) (tail_no_digit s)))
