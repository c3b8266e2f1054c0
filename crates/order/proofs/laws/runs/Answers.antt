use Rattle.order.proofs.laws.runs.Goals as goal
use Rattle.order.proofs.Noting.{sound_of}
use Rattle.order.proofs.Paths.{runs_are_paths}
use Rattle.order.proofs.Reaching.{paths_are_runs}
use Rattle.order.proofs.OneRun.{one_run}
use Rattle.order.proofs.Order.{noted}
use Rattle.order.proofs.Renoted.{run_noted, noted_run}
use Rattle.order.proofs.Mapped.{as_noted}

pub returns : goal.returns
returns c = record {
  accepted = λ o es n. runs_are_paths es (sound_of o es n);
  paths = λ o es n. paths_are_runs es (sound_of o es n);
  one = λ o es n. one_run es (sound_of o es n);
  noted = λ o es n. (noted es (sound_of o es n), as_noted es (sound_of o es n));
  real = λ o es n r. (run_noted o es n r, noted_run o es n r);
}
