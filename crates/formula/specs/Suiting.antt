-- Which words a trace has a variable, a label or a thread for.
use Rattle.std.specs.Prelude.{◌≡◌, ℕ, ◌<◌, ◌≤◌, Bool, true, false, List, Ok, Err, Result, nat_lt, slice_index_or}
use Rattle.grammar.specs.Recording.{Formula}
use Rattle.text.specs.declared.place.Place.{Place}
use Rattle.text.specs.Places.{byte_place}
use Rattle.formula.specs.declared.fault.RuleFault.{RuleFault}
use Rattle.formula.specs.declared.fault.RuleFault.TheVariants.{Void, Text, TooMany, Variable, Label, Thread}
use Rattle.formula.specs.declared.word.Word.{Word}
use Rattle.formula.specs.declared.word.Word.TheVariants.{Eq as EqW, Lt as LtW, Gt as GtW, Mark as MarkW, By as ByW, Not as NotW, And as AndW, Or as OrW, Implies as ImpliesW, Before as BeforeW, Once as OnceW, Always as AlwaysW, Since as SinceW}
use Rattle.formula.specs.Reading.{bracket_at, word_of}
use Rattle.formula.specs.Truth.{subformulas, size}

-- one of v variables, 32 labels and 8 threads
abbrev pub suits : ℕ → Word → Bool
suits v (EqW x c) = nat_lt x v
suits v (LtW x c) = nat_lt x v
suits v (GtW x c) = nat_lt x v
suits v (MarkW k) = nat_lt k 32
suits v (ByW t) = nat_lt t 8
suits v NotW = true
suits v BeforeW = true
suits v OnceW = true
suits v AlwaysW = true
suits v AndW = true
suits v OrW = true
suits v ImpliesW = true
suits v SinceW = true

-- why a word that does not suit is refused
abbrev pub refused : Word → Place → RuleFault
refused (EqW x c) p = Variable p
refused (LtW x c) p = Variable p
refused (GtW x c) p = Variable p
refused (MarkW k) p = Label p
refused (ByW t) p = Thread p
refused NotW p = Thread p
refused BeforeW p = Thread p
refused OnceW p = Thread p
refused AlwaysW p = Thread p
refused AndW p = Thread p
refused OrW p = Thread p
refused ImpliesW p = Thread p
refused SinceW p = Thread p

-- the word of subformula i
abbrev pub word_in : Formula → ℕ → Word
word_in f i = word_of (slice_index_or (subformulas f) i f)

-- every subformula suits
abbrev pub Suited : ℕ → Formula → Type 0
Suited v f = (i : ℕ) → i < size f → suits v (word_in f i) ≡ true

-- the fault is that of the first subformula that does not suit, at the place of its bracket
pub record Unsuited (v : ℕ) (t : List ℕ) (f : Formula) (fault : RuleFault) : Type 0 where
  pub at : ℕ
  pub within : at < size f
  pub ahead : (i : ℕ) → i < at → suits v (word_in f i) ≡ true
  pub here : suits v (word_in f at) ≡ false
  pub is : fault ≡ refused (word_in f at) (byte_place t (bracket_at t at))

-- why a formula that the text is that of is refused: it has more than 60 subformulas, or one that does not suit
abbrev pub Faulty : ℕ → List ℕ → Formula → RuleFault → Type 0
Faulty v t f Void = ⊥
Faulty v t f (Text fault) = ⊥
Faulty v t f (TooMany p) = (60 < size f) × (p ≡ byte_place t (bracket_at t 60))
Faulty v t f (Variable p) = (size f ≤ 60) × Unsuited v t f (Variable p)
Faulty v t f (Label p) = (size f ≤ 60) × Unsuited v t f (Label p)
Faulty v t f (Thread p) = (size f ≤ 60) × Unsuited v t f (Thread p)

-- whether it is refused
abbrev pub FaultOf : ℕ → List ℕ → Formula → Result (Unit {0}) RuleFault → Type 0
FaultOf v t f (Ok u) = (size f ≤ 60) × Suited v f
FaultOf v t f (Err fault) = Faulty v t f fault
