use Rattle.std.proofs.Common.{refl}
use Rattle.std.specs.Fmt.{digits}
use Rattle.codes.specs.Codes.{bit_of, code_of, only_bit}
use Rattle.explore.specs.Paths.{back}
use Rattle.formula.specs.Step.{eval, bits, stepped, started}
use Rattle.worked.proofs.worked_traces.Goals as goal

pub returns : goal.returns
unfolding digits bit_of code_of only_bit back eval bits stepped started
returns c = record {
  computed = refl;
  tabled = (record { numbered = (refl, refl, (refl, refl)); all = refl }, record { numbered = (refl, refl); all = refl });
}
