use Rattle.std.proofs.Common.{ap}
use Rattle.calls.specs.Acts.{gave_note}
use Rattle.calls.proofs.Rising.{one_more}
use Rattle.calls.proofs.single.note.Goals as goal

pub returns-clause-more : goal.returns-clause-more
returns-clause-more c =
    one_more _ _ _ _ (ap gave_note c.note.ensures.says) _ _ c.note.ensures.opening c.note.ensures.noted
