use Rattle.std.proofs.Common.{[], ◌∷◌}
use Rattle.grammar.specs.Machine.{n, form, start}
use Rattle.grammar.specs.Recording.{Legal, LegalRule}
use Rattle.grammar.proofs.Judged.{tracks_legal, tracks_legal_rule, just_one}
use Rattle.grammar.proofs.one_shape.Goals as goal

pub returns : goal.returns
returns c = record { recordings = just_one Legal start tracks_legal; rules = just_one LegalRule (n (form 15) ∷ []) tracks_legal_rule }
