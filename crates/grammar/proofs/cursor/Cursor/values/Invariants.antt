use Rattle.std.proofs.Common.{◌≡◌, ◌-◌, List, [], ◌∷◌, length}
use Rattle.grammar.specs.Machine.{Sym, n, t, is, tail, vals}
use Rattle.grammar.specs.Reading.{Onward, behind}
use Rattle.grammar.proofs.cursor.Cursor.values.Given as goal

abbrev pub invariant-loop-self : goal.invariant-loop-self
invariant-loop-self l = record {
  onward : Onward l.fn.self l.self;
  moves : (s : List Sym) → behind ((n vals ∷ t (is 41) ∷ s) ∷ []) l.fn.self ≡ behind ((n tail ∷ t (is 41) ∷ s) ∷ []) l.self;
}

abbrev pub decreases-loop-self : goal.decreases-loop-self
decreases-loop-self l = length l.self.text.now - l.self.at
