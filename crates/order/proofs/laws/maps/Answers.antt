use Rattle.order.specs.Maps.{rows}
use Rattle.order.proofs.laws.maps.Goals as goal
use Rattle.order.proofs.Noting.{sound_of, within_of}
use Rattle.order.proofs.Maps.{equal_maps}
use Rattle.order.proofs.Mapped.{rows_are_map, as_many_rows, one_map}

pub returns : goal.returns
returns c = record {
  one = λ o es n.
      let sound = sound_of o es n in
      let m = rows_are_map es sound o.threads (within_of o es n).threads in
      (m, as_many_rows es sound (rows es o.threads) m, λ k b. one_map es sound k (rows es o.threads) b m);
  equal = λ o p es fs a b. equal_maps es fs (sound_of o es a) (sound_of p fs b);
}
