use Rattle.text.proofs.Answering.{answers_built}
use Rattle.text.proofs.reading.read.Goals as goal

pub returns : goal.returns
returns c = answers_built c.args.text.now c.build.result c.in_ok-admit.ensures.0 c.build.ensures
