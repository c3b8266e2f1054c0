use Rattle.follow.proofs.Summing.{Sums}
use Rattle.follow.proofs.fill.sum_thread.Given as goal

abbrev pub invariant-loop-i : goal.invariant-loop-i
invariant-loop-i l = Sums l.initial.tallies l.tallies l.first l.i
