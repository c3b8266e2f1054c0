use Rattle.std.proofs.Common.{get_or, ap, ◌∙◌, arith}
use Rattle.text.specs.declared.place.Place.{Place}
use Rattle.text.specs.Places.{past}
use Rattle.text.proofs.Going.{place_more, line_le, column_le}
use Rattle.text.proofs.reader.Reader.step.Goals as goal

pub past-self-requires : goal.past-self-requires
past-self-requires c =
    let t = c.args.self.now.text.now in
    let at = c.args.self.now.at in
    let line = ap (λ (p : Place). p.line) c.args.self.now.placed in
    let column = ap (λ (p : Place). p.column) c.args.self.now.placed in
    let l = line_le t at in
    let k = column_le t at in
    record { line_bound = omega arith; column_bound = omega arith }

pub invariant_of-self : goal.invariant_of-self
invariant_of-self c =
    let t = c.args.self.now.text.now in
    let at = c.args.self.now.at in
    let one = ap (λ (p : Place). past p (get_or t at 0)) c.args.self.now.placed in
    record { within = omega arith; placed = c.past-self.ensures ∙ one ∙ place_more t at c.requires }
