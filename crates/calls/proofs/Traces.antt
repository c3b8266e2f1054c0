-- What a trace's fields make sure of.
use Rattle.events.specs.Noting.{Noted}
use Rattle.events.proofs.Accepted.{accepted_decides}
use Rattle.trace.specs.declared.Trace.{Trace}
use Rattle.trace.specs.Meaning.{opening_of, noted_of}

pub noted_in : (t : Trace) → Noted (opening_of t) (noted_of t)
noted_in t = (accepted_decides (opening_of t) (noted_of t)).0 t.noted
