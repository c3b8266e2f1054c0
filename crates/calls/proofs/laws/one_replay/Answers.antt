use Rattle.calls.proofs.Replayed.{one_replay}
use Rattle.calls.proofs.laws.one_replay.Goals as goal

pub returns : goal.returns
returns c = one_replay
