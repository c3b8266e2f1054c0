use Rattle.std.proofs.Common.{[], refl, arith}
use Rattle.grammar.proofs.Steps.{stops}
use Rattle.grammar.proofs.cursor.Cursor.flaw.Goals as goal

pub returns-then-self : goal.returns-then-self
returns-then-self c = stops [] c.args.self.now.at c.args.self.now.text.now (omega arith) refl
