-- What a text comes to when it is read, and what the answer says of it.
use Rattle.std.specs.Prelude.{◌≡◌, ℕ, ◌+◌, ◌<◌, ◌≤◌, List, [], length, Ok, Err, vec_items, Result}
use Rattle.grammar.specs.Recording as grammar
use Rattle.grammar.specs.declared.flaw.Flaw.{Flaw}
use Rattle.grammar.specs.declared.flaw.Flaw.TheVariants.{Wrong, Early}
use Rattle.grammar.specs.Recording.{Formula, All, Legal, Proper, Shaped, flat, formula, pieces}
use Rattle.text.specs.declared.recording.Recording.{Recording}
use Rattle.text.specs.declared.fault.TextFault.{TextFault}
use Rattle.text.specs.declared.fault.TextFault.TheVariants.{TooLong, Unexpected, EndsEarly, OutOfRange}
use Rattle.text.specs.declared.fault.ReadFault.{ReadFault}
use Rattle.text.specs.declared.fault.ReadFault.TheVariants.{Text, Memory}
use Rattle.text.specs.Places.{byte_place}
use Rattle.text.specs.Ranges.{InRange, FirstOut}

-- What a text comes to: it is too long; at fault at the byte that has k bytes ahead of it, with which no legal text goes on; ended early; legal,
-- with a number out of range that has k bytes ahead of it; or it says what the recording r does.
pub data Reading : Type 0 where
  long : Reading
  wrong : ℕ → Reading
  early : Reading
  outside : ℕ → Reading
  reads : grammar.Recording → Reading

-- the text comes to this
abbrev pub Right : List ℕ → Reading → Type 0
Right t long = 60000 < length t
Right t (wrong k) = (length t ≤ 60000) × Shaped Legal t (grammar.wrong k)
Right t early = (length t ≤ 60000) × Shaped Legal t grammar.early
Right t (outside k) = (length t ≤ 60000) × ((r : grammar.Recording) × Proper r × (t ≡ flat (pieces r)) × FirstOut (pieces r) k)
Right t (reads r) = (length t ≤ 60000) × Proper r × (t ≡ flat (pieces r)) × All InRange (pieces r)

-- what a recording that was read says, where its rule spells f
abbrev pub said : Recording → Formula → grammar.Recording
said rec f = record { threads = rec.threads; starts = vec_items rec.starts; actions = vec_items rec.actions; rule = f }

-- the rule's part spells f and stands ahead of the last two bytes of the text, at its place
pub record Spelt (t : List ℕ) (rec : Recording) (f : Formula) : Type 0 where
  pub spells : rec.rule.now ≡ flat (formula f [])
  pub at : ℕ
  pub ends : length t ≡ at + length rec.rule.now + 2
  pub place : rec.rule_place ≡ byte_place t at

-- what the answer says of the text; want of memory says nothing
abbrev pub Answers : List ℕ → Result Recording ReadFault → Type 0
Answers t (Ok rec) = (f : Formula) × Right t (reads (said rec f)) × Spelt t rec f
Answers t (Err (Text TooLong)) = Right t long
Answers t (Err (Text (Unexpected p))) = (k : ℕ) × Right t (wrong k) × (p ≡ byte_place t k)
Answers t (Err (Text (EndsEarly p))) = Right t early × (p ≡ byte_place t (length t))
Answers t (Err (Text (OutOfRange p))) = (k : ℕ) × Right t (outside k) × (p ≡ byte_place t k)
Answers t (Err Memory) = Unit {0}

-- the fault of a text with the flaw
abbrev pub flaw_fault : List ℕ → Flaw → TextFault
flaw_fault t (Wrong k) = Unexpected (byte_place t k)
flaw_fault t Early = EndsEarly (byte_place t (length t))

-- what is told of a text before it is read, where those of which Q holds are legal: that it is legal and not too long, or why it is not
abbrev pub Admitted : (List ℕ → Type 0) → List ℕ → Result (Unit {0}) TextFault → Type 0
Admitted Q t (Ok u) = (length t ≤ 60000) × Q t
Admitted Q t (Err TooLong) = 60000 < length t
Admitted Q t (Err (Unexpected p)) = (length t ≤ 60000) × ((k : ℕ) × Shaped Q t (grammar.wrong k) × (p ≡ byte_place t k))
Admitted Q t (Err (EndsEarly p)) = (length t ≤ 60000) × Shaped Q t grammar.early × (p ≡ byte_place t (length t))
Admitted Q t (Err (OutOfRange p)) = ⊥
