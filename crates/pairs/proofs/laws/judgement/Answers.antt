use Rattle.pairs.proofs.laws.judgement.Goals as goal
use Rattle.pairs.proofs.Steps.{given}
use Rattle.pairs.proofs.Judged.{judged, room_judged}

pub returns : goal.returns
returns c = record {
  listing = λ o es n m r. judged es n m (given o es n r);
  room = λ o es n m r. room_judged es n m (given o es n r);
}
