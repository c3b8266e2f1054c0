use Rattle.std.proofs.Common.{[], ◌∙◌, rules}
use Rattle.grammar.specs.Machine.{start}
use Rattle.grammar.specs.Recording.{Legal}
use Rattle.grammar.proofs.Judged.{tracks_legal, judged, broken}
use Rattle.grammar.proofs.check.Goals as goal

pub returns-in_err-recording : goal.returns-in_err-recording
returns-in_err-recording c =
    broken Legal start c.args.text.now c.new-cursor.result c.in_err-recording.field-0.0 c.from_residual.result tracks_legal c.new-cursor.ensures.text c.new-cursor.ensures.at
    (search rules) (c.in_err-recording.ensures.moves [])

pub returns : goal.returns
returns c =
    judged Legal start c.args.text.now c.new-cursor.result c.end.result tracks_legal c.new-cursor.ensures.text c.new-cursor.ensures.at
    (c.in_ok-recording.ensures.moves [] ∙ c.end.ensures)
