-- What a reader's answer says of the machine: how the text goes on from the cursor that it was called with is how it goes on from the cursor that it leaves.
use Rattle.std.specs.Prelude.{IfOk, IfErr, Bool, true, false, ◌≡◌, ℕ, ◌+◌, ◌-◌, ◌<◌, ◌≤◌, max, List, [], ◌∷◌, ◌++◌, length, drop, Ok, Err, Result, slice_index}
use Rattle.std.specs.Borrow.{Bor}
use Rattle.std.specs.List.{Contains}
use Rattle.grammar.specs.Recording.{Shape, whole, wrong, early}
use Rattle.grammar.specs.Flaws.{flawed}
use Rattle.grammar.specs.Machine.{is, more, num, int, rest, form, Sym, t, n, lits, after, run}
use Rattle.grammar.specs.declared.flaw.Flaw.{Flaw}
use Rattle.grammar.specs.declared.cursor.Cursor.{Cursor}
use Rattle.grammar.specs.declared.formula.Inside.{Inside}
use Rattle.grammar.specs.declared.formula.Inside.TheVariants.{Comparison, Number, OneFormula, TwoFormulas}
use Rattle.grammar.specs.declared.lines.Line.{Line}
use Rattle.grammar.specs.declared.lines.Line.TheVariants.{Rule, Valued, Plain}

-- the shape of a text with i bytes ahead
abbrev pub place : ℕ → Shape → Shape
place i whole = whole
place i (wrong k) = wrong (i + k)
place i early = early

-- what the machine says from the place i on, with the rows S to come
abbrev pub run_at : List (List Sym) → ℕ → List ℕ → Shape
run_at S i w = place i (run S (drop i w))

-- the same from a cursor on
abbrev pub behind : List (List Sym) → Cursor → Shape
behind S c = run_at S c.at c.text.now

-- the same where a reader has answered r and left the cursor d, with the row s to come
abbrev pub out : Result (Unit {0}) Flaw → List Sym → Cursor → Shape
out (Ok u) s d = behind (s ∷ []) d
out (Err e) s d = flawed e

-- d is in the text of c, at its place or behind it
pub record Onward (c d : Cursor) : Type 0 where
  pub text : d.text.now ≡ c.text.now
  pub at : c.at ≤ d.at

-- no digit can come first
abbrev pub NoDigit : List Sym → Type 0
NoDigit s = (b : ℕ) → 48 ≤ b → b ≤ 57 → after s b ≡ []

-- the row x was to come at c, and anything behind it
abbrev pub Reads : List Sym → Cursor → Result (Unit {0}) Flaw → Cursor → Type 0
Reads x c r d = (s : List Sym) → behind ((x ++ s) ∷ []) c ≡ out r s d

-- the same where no digit can come behind it
abbrev pub ReadsNumber : List Sym → Cursor → Result (Unit {0}) Flaw → Cursor → Type 0
ReadsNumber x c r d = (s : List Sym) → NoDigit s → behind ((x ++ s) ∷ []) c ≡ out r s d

-- up to k digits were to come at c
abbrev pub ReadsDigits : ℕ → Cursor → Cursor → Type 0
ReadsDigits k c d = (s : List Sym) → NoDigit s → behind ((n (more k) ∷ s) ∷ []) c ≡ behind (s ∷ []) d

-- the byte b stands at c
abbrev pub Stands : ℕ → Cursor → Type 0
Stands b c = (c.at < length c.text.now) × (slice_index c.text.now c.at ≡ b)

-- d is behind the byte b at c if it stands there, and c if not
abbrev pub Passes : ℕ → Cursor → Bool → Cursor → Type 0
Passes b c true d = Stands b c × (d.text.now ≡ c.text.now) × (d.at ≡ c.at + 1)
Passes b c false d = ¬ (Stands b c) × (d ≡ c)

-- the bytes cs stand at c, and d is behind them
abbrev pub Spelt : List ℕ → Cursor → Cursor → Type 0
Spelt cs c d = (d.at ≡ c.at + length cs) × (drop c.at c.text.now ≡ cs ++ drop d.at d.text.now)

-- the bytes cs were to come at c
abbrev pub ReadsWord : List ℕ → Cursor → Result (Unit {0}) Flaw → Cursor → Type 0
ReadsWord cs c r d = (s : List Sym) → behind (lits cs s ∷ []) c ≡ out r s d

-- what two sets of rows say together: the flaw of the one that came further
abbrev pub far : Shape → Shape → Shape
far whole b = whole
far (wrong k) whole = whole
far (wrong k) (wrong l) = wrong (max k l)
far (wrong k) early = early
far early whole = whole
far early (wrong l) = early
far early early = early

-- the row of each word in a table, where f says by what stands beside a word what is to come behind it
abbrev pub word_rows : {T : Type 0} → List (Bor (List ℕ) × T) → (T → List Sym) → List (List Sym)
word_rows [] f = []
word_rows (p ∷ ps) f = lits p.0.now (f p.1) ∷ word_rows ps f

-- a word of the table stands at c, r is what stands beside it, and d is behind it; or none does, whatever is to come behind each
pub record ReadsOne {T : Type 0} (ws : List (Bor (List ℕ) × T)) (c : Cursor) (r : Result T Flaw) (d : Cursor) : Type 0 where
  pub found : IfOk r (λ m. (w : Bor (List ℕ)) × Contains ws (w, m) × Spelt w.now c d)
  pub missed : IfErr r (λ e. (f : T → List Sym) → behind (word_rows ws f) c ≡ flawed e)

-- a formula that has this inside, with room for d levels of brackets inside its own
abbrev pub Fits : ℕ → Inside → Type 0
Fits d Comparison = Unit {0}
Fits d Number = Unit {0}
Fits d OneFormula = 0 < d
Fits d TwoFormulas = 0 < d

-- what is to come behind a formula's word, with s behind the formula, where formulas inside have room for e levels
abbrev pub inside : ℕ → List Sym → Inside → List Sym
inside e s Comparison = n num ∷ t (is 32) ∷ n int ∷ t (is 41) ∷ s
inside e s Number = n num ∷ t (is 41) ∷ s
inside e s OneFormula = n (form e) ∷ t (is 41) ∷ s
inside e s TwoFormulas = n (form e) ∷ t (is 32) ∷ n (form e) ∷ t (is 41) ∷ s

-- what is to come behind a line's word, with s behind the lines
abbrev pub body : List Sym → Line → List Sym
body s Rule = n (form 14) ∷ t (is 41) ∷ t (is 10) ∷ s
body s Valued = n num ∷ t (is 32) ∷ n num ∷ t (is 32) ∷ n int ∷ t (is 41) ∷ t (is 10) ∷ n rest ∷ s
body s Plain = n num ∷ t (is 32) ∷ n num ∷ t (is 41) ∷ t (is 10) ∷ n rest ∷ s

-- what the machine says behind a word that was read, where f says what is to come there
abbrev pub out_word : {T : Type 0} → Result T Flaw → (T → List Sym) → Cursor → Shape
out_word (Ok m) f d = behind (f m ∷ []) d
out_word (Err e) f d = flawed e

-- a formula was to come at c, and its word was read
abbrev pub ReadsFormulaWord : ℕ → Cursor → Result Inside Flaw → Cursor → Type 0
ReadsFormulaWord d c r e = (s : List Sym) → behind ((n (form d) ∷ s) ∷ []) c ≡ out_word r (inside (d - 1) s) e

-- a line was to come at c, and its word was read
abbrev pub ReadsLineWord : Cursor → Result Line Flaw → Cursor → Type 0
ReadsLineWord c r d = (s : List Sym) → behind ((n rest ∷ s) ∷ []) c ≡ out_word r (body s) d

-- the rest of a line was to come at c, and was read with its end
abbrev pub ReadsLine : Line → Cursor → Result (Unit {0}) Flaw → Cursor → Type 0
ReadsLine k c r d = (s : List Sym) → behind (body s k ∷ []) c ≡ out r (n rest ∷ s) d
