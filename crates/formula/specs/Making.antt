-- What a rule's text is made into: a formula, or the reason why it is refused.
use Rattle.std.specs.Prelude.{◌≡◌, ℕ, ◌<◌, ◌≤◌, List, [], length, ℤ, is_some, Ok, Err, MatchBool, Result}
use Rattle.events.specs.Noting.{Opening}
use Rattle.grammar.specs.Recording.{Formula, All, Nests, LegalRule, Shaped, wrong, early, flat, formula}
use Rattle.text.specs.declared.fault.TextFault.{TextFault}
use Rattle.text.specs.declared.fault.TextFault.TheVariants.{TooLong, Unexpected, EndsEarly, OutOfRange}
use Rattle.text.specs.Places.{byte_place}
use Rattle.text.specs.Ranges.{InRange, FirstOut}
use Rattle.formula.specs.declared.fault.RuleFault.{RuleFault}
use Rattle.formula.specs.declared.fault.RuleFault.TheVariants.{Void, Text, TooMany, Variable, Label, Thread}
use Rattle.formula.specs.declared.formula.Formula.{Formula as Compiled}
use Rattle.formula.specs.declared.word.Word.{Word}
use Rattle.formula.specs.Meant.{starts_of}
use Rattle.formula.specs.Spelling.{Spelt}
use Rattle.formula.specs.Suiting.{Suited, Faulty}
use Rattle.formula.specs.Table.{Tabled}
use Rattle.formula.specs.Theorem.{Watches}
use Rattle.formula.specs.Truth.{size}

-- What is wrong with the text alone: it is too long; a byte of it is one with which no rule goes on; it ends early; or a number of its formula
-- is out of range.
abbrev pub TextFaulty : List ℕ → TextFault → Type 0
TextFaulty t TooLong = 60000 < length t
TextFaulty t (Unexpected p) = (length t ≤ 60000) × ((k : ℕ) × Shaped LegalRule t (wrong k) × (p ≡ byte_place t k))
TextFaulty t (EndsEarly p) = (length t ≤ 60000) × Shaped LegalRule t early × (p ≡ byte_place t (length t))
TextFaulty t (OutOfRange p) =
    (length t ≤ 60000) × ((f : Formula) × Nests 15 f × (t ≡ flat (formula f [])) × ((k : ℕ) × FirstOut (formula f []) k × (p ≡ byte_place t k)))

-- the text is that of f, with all numbers in range
pub record Written (t : List ℕ) (f : Formula) : Type 0 where
  pub short : length t ≤ 60000
  pub nests : Nests 15 f
  pub spells : t ≡ flat (formula f [])
  pub fits : All InRange (formula f [])

-- the formula is that of the text: it has the table of f, and the starting values
pub record Makes (starts : List ℤ) (t : List ℕ) (c : Compiled) : Type 0 where
  pub of : Formula
  pub written : Written t of
  pub few : size of ≤ 60
  pub suited : Suited (length starts) of
  pub tabled : Tabled c.table.nodes c.table.len of
  pub begins : starts_of c ≡ starts

-- why a text is refused, where the trace is not void
abbrev pub Refuses : List ℤ → List ℕ → RuleFault → Type 0
Refuses starts t Void = ⊥
Refuses starts t (Text fault) = TextFaulty t fault
Refuses starts t (TooMany p) = (f : Formula) × Written t f × Faulty (length starts) t f (TooMany p)
Refuses starts t (Variable p) = (f : Formula) × Written t f × Faulty (length starts) t f (Variable p)
Refuses starts t (Label p) = (f : Formula) × Written t f × Faulty (length starts) t f (Label p)
Refuses starts t (Thread p) = (f : Formula) × Written t f × Faulty (length starts) t f (Thread p)

-- what is made of a text where the variables have these starting values
abbrev pub MadeFrom : List ℤ → List ℕ → Result Compiled RuleFault → Type 0
MadeFrom starts t (Ok c) = Makes starts t c
MadeFrom starts t (Err fault) = Refuses starts t fault

-- what is made of a text over a trace
abbrev pub MadeOver : Opening → List ℕ → Result Compiled RuleFault → Type 0
MadeOver o t r = MatchBool (is_some o.void) (r ≡ Err Void) (MadeFrom o.starts t r)

-- whatever formula the text spells, the codes of what was made say of every run what the formula does
abbrev pub WatchesText : List ℤ → List ℕ → Result Compiled RuleFault → Type 0
WatchesText starts t (Ok c) = (f : Formula) → Nests 15 f → t ≡ flat (formula f []) → Watches starts c f
WatchesText starts t (Err fault) = Unit {0}

-- what reading the text comes to: the words of the formula that it spells, or what is wrong with it
abbrev pub ReadsText : List ℕ → Result (List Word) TextFault → Type 0
ReadsText t (Ok ws) = (length t ≤ 60000) × LegalRule t × ((f : Formula) → Nests 15 f → t ≡ flat (formula f []) → Spelt f ws)
ReadsText t (Err fault) = TextFaulty t fault
