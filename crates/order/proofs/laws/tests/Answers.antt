use Rattle.order.proofs.laws.tests.Goals as goal
use Rattle.order.proofs.Noting.{sound_of}
use Rattle.order.proofs.Decided.{decides_feeds, decides_member, decides_open}
use Rattle.order.proofs.Accepting.{decides_before, decides_may_follow, decides_accepts, decides_consistent}

pub returns : goal.returns
returns c o es n =
    let sound = sound_of o es n in
    record {
      feeding = decides_feeds es;
      order = decides_before es sound;
      groups = decides_member es;
      opens = decides_open es;
      follows = decides_may_follow es sound;
      accepted = decides_accepts es sound;
      runs = decides_consistent es sound;
    }
