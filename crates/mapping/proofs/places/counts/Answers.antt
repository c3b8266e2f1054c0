use Rattle.std.proofs.Common.{suc, ◌<◌, arith}
use Rattle.order.specs.Trace.{thread_at}
use Rattle.mapping.proofs.Spots.{among_le}
use Rattle.mapping.proofs.places.counts.Goals as goal

-- a thread has no more events than there are
pub overflow_add-counts : goal.overflow_add-counts
overflow_add-counts c =
    let es = c.args.events.now in
    let k = c.loop-event.event-index in
    let t = thread_at es k in
    let u : t < 8 = omega arith in
    omega (arith, c.loop-event.invariant.1 t u, among_le es (suc t) k, c.well_formed)
