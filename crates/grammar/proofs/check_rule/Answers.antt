use Rattle.std.proofs.Common.{[], ◌∷◌, ◌∙◌, rules}
use Rattle.grammar.specs.Machine.{n, form}
use Rattle.grammar.specs.Recording.{LegalRule}
use Rattle.grammar.proofs.Judged.{tracks_legal_rule, judged, broken}
use Rattle.grammar.proofs.check_rule.Goals as goal

pub returns-in_err-formula : goal.returns-in_err-formula
returns-in_err-formula c =
    broken LegalRule (n (form 15) ∷ []) c.args.text.now c.new-cursor.result c.in_err-formula.field-0.0 c.from_residual.result tracks_legal_rule c.new-cursor.ensures.text
    c.new-cursor.ensures.at (search rules) (c.in_err-formula.ensures.moves [])

pub returns : goal.returns
returns c =
    judged LegalRule (n (form 15) ∷ []) c.args.text.now c.new-cursor.result c.end.result tracks_legal_rule c.new-cursor.ensures.text c.new-cursor.ensures.at
    (c.in_ok-formula.ensures.moves [] ∙ c.end.ensures)
