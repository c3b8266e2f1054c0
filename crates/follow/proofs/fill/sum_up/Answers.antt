use Rattle.follow.proofs.Summing.{summed_more}
use Rattle.follow.proofs.fill.sum_up.Goals as goal

pub loop-thread-preserved : goal.loop-thread-preserved
loop-thread-preserved c = summed_more c.args.tallies.now c.loop-thread.tallies _ c.loop-thread.thread c.loop-thread-test.true c.loop-thread.invariant c.sum_thread.ensures
