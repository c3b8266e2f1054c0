use Rattle.std.proofs.Common.{ap, ◌∙◌}
use Rattle.text.specs.Ranges.{fitting}
use Rattle.formula.proofs.Figures.{number_part}
use Rattle.formula.proofs.numbers.number_at.Goals as goal

pub returns : goal.returns
returns g c n rest is short stop e =
    let p = g.N.Number.spelling n in
    c.read.ensures.spelt n short (c.digits_at.ensures ∙ number_part c.args.text.now c.args.from p rest is short stop e) ∙ ap (fitting p n) c.place_at.ensures
