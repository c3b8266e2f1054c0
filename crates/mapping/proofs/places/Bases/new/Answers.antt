use Rattle.std.proofs.Common.{◌≡◌, ◌+◌, length, get_or, refl, sym, ap, ◌∙◌, arith}
use Rattle.std.proofs.lemmas.List.{length-set}
use Rattle.mapping.specs.Rows.{base}
use Rattle.mapping.proofs.Spots.{base_none, base_more, base_le, bases_next}
use Rattle.mapping.proofs.places.Bases.new.Goals as goal

pub loop-t-init : goal.loop-t-init
loop-t-init c = (refl, sym (base_none c.args.events.now), λ u l. absurd (omega arith))

-- there are no more rows than events
pub overflow_add-ahead : goal.overflow_add-ahead
overflow_add-ahead c =
    let es = c.args.events.now in
    let t = c.loop-t.t in
    omega (arith, c.loop-t.invariant.1, c.counts-counts.ensures t c.loop-t-test.true, base_more es t, base_le es (t + 1), c.well_formed)

pub loop-t-preserved : goal.loop-t-preserved
loop-t-preserved c =
    let es = c.args.events.now in
    let t = c.loop-t.t in
    let starts = c.loop-t.starts in
    let e : c.loop-t.ahead + get_or c.counts-counts.result t 0 ≡ base es (t + 1)
    = omega (arith, c.loop-t.invariant.1, c.counts-counts.ensures t c.loop-t-test.true, base_more es t) in (
      length-set starts t _ ∙ c.loop-t.invariant.0,
      e,
      bases_next es starts t c.loop-t.ahead (omega arith) c.loop-t.invariant.1 c.loop-t.invariant.2,
    )
