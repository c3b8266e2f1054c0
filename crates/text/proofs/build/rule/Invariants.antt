use Rattle.std.proofs.Common.{◌-◌, false, List, length}
use Rattle.grammar.specs.Recording.{Piece}
use Rattle.text.specs.Standing.{Roles, Stand}
use Rattle.text.proofs.Loops.{RuleLeft}
use Rattle.text.proofs.build.rule.Given as goal

abbrev pub invariant-loop-token : goal.invariant-loop-token
invariant-loop-token l = (whole ps : List Piece) → Stand whole l.initial.reader ps → Roles false ps → RuleLeft whole l.reader l.behind

abbrev pub decreases-loop-token : goal.decreases-loop-token
decreases-loop-token l = length l.reader.text.now - l.reader.at
