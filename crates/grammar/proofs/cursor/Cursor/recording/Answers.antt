use Rattle.std.proofs.Common.{◌≡◌, List, [], ◌∷◌, ◌++◌, Ok, codes, ◌∙◌, arith, rules}
use Rattle.grammar.specs.Machine.{Sym, t, n, is, num, vals, rest, start}
use Rattle.grammar.specs.Reading.{ReadsNumber, ReadsWord, behind}
use Rattle.grammar.specs.declared.cursor.Cursor.{Cursor}
use Rattle.grammar.proofs.Steps.{failed, no_digit}
use Rattle.grammar.proofs.cursor.Cursor.recording.Goals as goal

-- what is to come behind the starting values
abbrev row_line : List Sym → List Sym
row_line s = t (is 41) ∷ t (is 10) ∷ n rest ∷ s

-- the first three readers have come to the starting values
begun : (c d e f : Cursor) → ReadsWord (codes "(open ") c (Ok tt) d → ReadsNumber (n num ∷ []) d (Ok tt) e → ReadsWord (codes " (") e (Ok tt) f
    → (s : List Sym) → behind ((start ++ s) ∷ []) c ≡ behind ((n vals ∷ t (is 41) ∷ row_line s) ∷ []) f
begun c d e f word count bracket s =
    let row : List Sym = t (is 40) ∷ n vals ∷ t (is 41) ∷ row_line s in
    word (n num ∷ t (is 32) ∷ row) ∙ count (t (is 32) ∷ row) (no_digit 32 row (omega arith)) ∙ bracket (n vals ∷ t (is 41) ∷ row_line s)

pub returns-in_err-values-clause-moves : goal.returns-in_err-values-clause-moves
returns-in_err-values-clause-moves c = λ s.
    failed ((start ++ s) ∷ []) s c.args.self.now c.values.new.self c.in_err-values.field-0.0 c.from_residual-in_err-values.result (search rules)
    (begun c.args.self.now c.word.new.self c.number.new.self c.word-2.new.self c.in_ok-word.ensures.moves c.in_ok-number.ensures.moves c.in_ok-word-2.ensures.moves s ∙ c.in_err-values.ensures.moves (row_line s))

pub returns-in_err-word-3-clause-moves : goal.returns-in_err-word-3-clause-moves
returns-in_err-word-3-clause-moves c = λ s.
    failed ((start ++ s) ∷ []) s c.args.self.now c.word-3.new.self c.in_err-word-3.field-0.0 c.from_residual-in_err-word-3.result (search rules)
    (begun c.args.self.now c.word.new.self c.number.new.self c.word-2.new.self c.in_ok-word.ensures.moves c.in_ok-number.ensures.moves c.in_ok-word-2.ensures.moves s ∙ c.in_ok-values.ensures.moves (row_line s)
    ∙ c.in_err-word-3.ensures.moves (n rest ∷ s))

pub returns-clause-moves : goal.returns-clause-moves
returns-clause-moves c = λ s.
    begun c.args.self.now c.word.new.self c.number.new.self c.word-2.new.self c.in_ok-word.ensures.moves c.in_ok-number.ensures.moves c.in_ok-word-2.ensures.moves s ∙ c.in_ok-values.ensures.moves (row_line s)
    ∙ c.in_ok-word-3.ensures.moves (n rest ∷ s) ∙ c.lines.ensures.moves s
