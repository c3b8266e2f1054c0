use Rattle.std.proofs.Common.{◌≡◌, ◌-◌, List, [], ◌∷◌, length}
use Rattle.grammar.specs.Machine.{Sym, n, rest}
use Rattle.grammar.specs.Reading.{Onward, behind}
use Rattle.grammar.proofs.cursor.Cursor.lines.Given as goal

abbrev pub invariant-loop-self : goal.invariant-loop-self
invariant-loop-self l = record {
  onward : Onward l.initial.self l.self;
  moves : (s : List Sym) → behind ((n rest ∷ s) ∷ []) l.initial.self ≡ behind ((n rest ∷ s) ∷ []) l.self;
}

abbrev pub decreases-loop-self : goal.decreases-loop-self
decreases-loop-self l = length l.self.text.now - l.self.at
