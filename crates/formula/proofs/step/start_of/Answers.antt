use Rattle.std.proofs.Common.{ap, pos, ◌∙◌, to_z-of_z, w32, SFits, rules}
use Rattle.std.specs.Option.{unwrap_or}
use Rattle.std.proofs.lemmas.Option.{unwrap_or-slice_get}
use Rattle.formula.proofs.step.start_of.Goals as goal

pub returns : goal.returns
returns c =
    let fits : SFits w32 c.unwrap_or.result = search rules in
    to_z-of_z fits ∙ c.unwrap_or.ensures ∙ ap (λ o. unwrap_or o (pos 0)) c.at.ensures ∙ unwrap_or-slice_get c.args.starts.now c.args.variable (pos 0)
