-- What is read of the text of a formula.
use Rattle.std.specs.Prelude.{◌≡◌, ℕ, ◌<◌, ◌≤◌, List, [], length, Ok, Err, Result, slice_index_or}
use Rattle.grammar.specs.Recording.{Formula, All, Nests, flat, formula}
use Rattle.text.specs.declared.fault.TextFault.{TextFault}
use Rattle.text.specs.declared.fault.TextFault.TheVariants.{OutOfRange}
use Rattle.text.specs.Places.{byte_place}
use Rattle.text.specs.Ranges.{InRange, FirstOut}
use Rattle.formula.specs.declared.fault.RuleFault.{RuleFault}
use Rattle.formula.specs.declared.word.Word.{Word}
use Rattle.formula.specs.Reading.{word_of}
use Rattle.formula.specs.Suiting.{FaultOf}
use Rattle.formula.specs.Truth.{subformulas, size}
use Rattle.formula.specs.Words.{word_at}

-- the words of the formula's subformulas, up to the sixty-first
pub record Spelt (f : Formula) (ws : List Word) : Type 0 where
  pub fits : All InRange (formula f [])
  pub room : length ws ≤ 61
  pub some : length ws ≤ size f
  pub all : length ws < 61 → length ws ≡ size f
  pub words : (j : ℕ) → j < length ws → word_at ws j ≡ word_of (slice_index_or (subformulas f) j f)

-- the words, or the fault of the first number out of range
abbrev pub Spells : List ℕ → Formula → Result (List Word) TextFault → Type 0
Spells t f (Ok ws) = Spelt f ws
Spells t f (Err fault) = (k : ℕ) × FirstOut (formula f []) k × (fault ≡ OutOfRange (byte_place t k))

-- whatever formula the text is that of
abbrev pub SpellsText : List ℕ → Result (List Word) TextFault → Type 0
SpellsText t r = (f : Formula) → Nests 15 f → t ≡ flat (formula f []) → Spells t f r

-- why a formula is refused, told by its words
abbrev pub FaultBy : List Word → ℕ → List ℕ → Result (Unit {0}) RuleFault → Type 0
FaultBy ws v t r = (f : Formula) → Spelt f ws → FaultOf v t f r
