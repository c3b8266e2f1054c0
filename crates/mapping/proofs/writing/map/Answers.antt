use Rattle.std.proofs.Common.{sym, subst}
use Rattle.trace.specs.Meaning.{opening_of, noted_of}
use Rattle.trace.proofs.Bounds.{opening_few}
use Rattle.mapping.specs.Rows.{Mappable}
use Rattle.mapping.proofs.Laws.{mappable}
use Rattle.mapping.proofs.writing.map.Goals as goal

pub fill-requires-clause-fit : goal.fill-requires-clause-fit
fill-requires-clause-fit c =
    let t = c.args.trace.now in
    subst Mappable (sym c.events-events.ensures.value)
    (mappable (opening_of t) (noted_of t) c.events-events.ensures.noted (opening_few t).0 (opening_few t).1)
