use Rattle.std.proofs.Common.{◌≡◌, length, take}
use Rattle.codes.specs.Codes.{bit_of, code_of}
use Rattle.formula.specs.Step.{eval}
use Rattle.formula.proofs.Backward.{rest, Ahead}
use Rattle.formula.proofs.Evals.{from}
use Rattle.formula.proofs.watch.FormulaMonitor.step.Given as goal

-- the truths of the subformulas from i on
abbrev pub invariant-loop-i : goal.invariant-loop-i
invariant-loop-i l = record {
  ahead : Ahead (take l.self.table.len l.self.table.nodes) l.i-iterator;
  truths : l.next ≡ code_of 62 (from l.self.table.len (eval l.self.table.len l.self.table.nodes (bit_of l.code) l.action) (length (rest l.i-iterator)));
}
