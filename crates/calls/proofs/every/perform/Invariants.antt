use Rattle.trace.specs.Meaning.{opening_of, noted_of}
use Rattle.calls.specs.Asked.{asked, given as gave, kept}
use Rattle.calls.proofs.Going.{Going}
use Rattle.calls.proofs.every.perform.Given as goal

abbrev pub invariant-loop-call : goal.invariant-loop-call
invariant-loop-call g l =
    Going (asked g.M.Monitor.meaning) gave kept (opening_of l.initial.trace) (noted_of l.initial.trace) l.initial.calls l.calls l.call-index
    (opening_of l.trace) (noted_of l.trace)
