-- What is built of a legal text.
use Rattle.std.specs.Prelude.{◌≡◌, ℕ, List, Ok, Err, Result}
use Rattle.grammar.specs.Recording as grammar
use Rattle.grammar.specs.Recording.{All, Formula, Proper, flat, pieces}
use Rattle.text.specs.declared.recording.Recording.{Recording}
use Rattle.text.specs.declared.fault.ReadFault.{ReadFault}
use Rattle.text.specs.declared.fault.ReadFault.TheVariants.{Text, Memory}
use Rattle.text.specs.Ranges.{InRange}
use Rattle.text.specs.Reading.{Spelt, said}
use Rattle.text.specs.Standing.{Outside}

-- the recording that the text is that of, or the fault of its first number out of range
abbrev pub Built : List ℕ → Result Recording ReadFault → Type 0
Built t (Ok rec) = (f : Formula) × Proper (said rec f) × (t ≡ flat (pieces (said rec f))) × All InRange (pieces (said rec f)) × Spelt t rec f
Built t (Err (Text x)) = (r : grammar.Recording) × Proper r × (t ≡ flat (pieces r)) × Outside (pieces r) x
Built t (Err Memory) = Unit {0}
