use Rattle.std.proofs.Common.{◌≡◌}
use Rattle.trace.specs.Meaning.{opening_of, noted_of, loan_of}
use Rattle.predictor.proofs.Progress.{Progress}
use Rattle.predictor.proofs.noting.note_all.Given as goal

abbrev pub invariant-loop-i : goal.invariant-loop-i
invariant-loop-i l =
    (opening_of l.trace ≡ opening_of l.initial.trace)
    × (loan_of l.trace ≡ loan_of l.initial.trace)
    × Progress (opening_of l.initial.trace) l.actions (noted_of l.trace) l.i
