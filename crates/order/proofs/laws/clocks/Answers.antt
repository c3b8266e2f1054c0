use Rattle.order.proofs.laws.clocks.Goals as goal
use Rattle.order.proofs.Noting.{sound_of, within_of}
use Rattle.order.proofs.Clocks.{scan_counts}
use Rattle.order.proofs.Numbers.{before_by_clock}
use Rattle.order.proofs.Kept.{kept_counts}

pub returns : goal.returns
returns c = record {
  scanned = λ o es n. scan_counts es (sound_of o es n);
  within = λ o es n. before_by_clock es (sound_of o es n);
  kept = λ o es n. kept_counts es (sound_of o es n) o.threads (within_of o es n).threads;
}
