use Rattle.std.proofs.Common.{◌≡◌, ◌+◌, List, [], ◌∷◌, ◌++◌, take, drop}
use Rattle.grammar.specs.Machine.{Sym, lits}
use Rattle.grammar.specs.Reading.{Onward, behind}
use Rattle.grammar.proofs.cursor.Cursor.word.Given as goal

abbrev pub invariant-loop-c : goal.invariant-loop-c
invariant-loop-c l = record {
  onward : Onward l.initial.self l.self;
  at : l.self.at ≡ l.initial.self.at + l.c-index;
  spelt : drop l.initial.self.at l.initial.self.text.now ≡ take l.c-index l.w ++ drop l.self.at l.self.text.now;
  moves : (s : List Sym) → behind (lits l.w s ∷ []) l.initial.self ≡ behind (lits (drop l.c-index l.w) s ∷ []) l.self;
}
