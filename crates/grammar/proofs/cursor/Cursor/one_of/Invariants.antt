use Rattle.std.proofs.Common.{◌≡◌, List, take}
use Rattle.grammar.specs.Flaws.{flawed}
use Rattle.grammar.specs.Machine.{Sym}
use Rattle.grammar.specs.Reading.{behind, word_rows}
use Rattle.grammar.proofs.cursor.Cursor.one_of.Given as goal

abbrev pub invariant-loop-word : goal.invariant-loop-word
invariant-loop-word g l = record {
  here : l.self ≡ l.initial.self;
  none : (f : _ → List Sym) → behind (word_rows (take l.word-index l.words) f) l.initial.self ≡ flawed l.flaw;
}
