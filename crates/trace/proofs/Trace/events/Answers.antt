use Rattle.events.proofs.Accepted.{accepted_decides}
use Rattle.trace.specs.Meaning.{opening_of, noted_of}
use Rattle.trace.proofs.Trace.events.Goals as goal

pub returns-clause-noted : goal.returns-clause-noted
returns-clause-noted c = let t = c.args.self.now in (accepted_decides (opening_of t) (noted_of t)).0 t.noted
