use Rattle.follow.proofs.Summing.{SummedBelow}
use Rattle.follow.proofs.fill.sum_up.Given as goal

abbrev pub invariant-loop-thread : goal.invariant-loop-thread
invariant-loop-thread l = SummedBelow l.initial.tallies l.tallies l.thread
