-- What the predictor says of the text of a recording.
use Rattle.std.specs.Prelude.{◌≡◌, ℕ, ◌+◌, ◌≤◌, List, [], length, take, ℤ, Some, None, Ok, Err, Result, ◌≢◌}
use Rattle.events.specs.declared.event.Action.{Action}
use Rattle.events.specs.declared.event.Event.{Event}
use Rattle.grammar.specs.Recording.{Recording, Formula, flat, formula}
use Rattle.formula.specs.Truth.{Holds}
use Rattle.judge.specs.declared.row.SearchRow.{SearchRow}
use Rattle.judge.specs.declared.verdict.Judgement.{Judgement}
use Rattle.judge.specs.declared.verdict.Verdict.TheVariants as verdict
use Rattle.order.specs.Runs.{Consistent, thread_list}
use Rattle.pairs.specs.Judged.{actions, Higher}
use Rattle.text.specs.declared.place.Place.{Place}
use Rattle.text.specs.declared.fault.ReadFault.TheVariants as read
use Rattle.text.specs.Places.{byte_place}
use Rattle.text.specs.Reading.{Right, reads, Answers}
use Rattle.predictor.specs.declared.fault.RecordFault.TheVariants as record-fault
use Rattle.predictor.specs.declared.fault.Fault.TheVariants.{Text, Record, Rule, Search}
use Rattle.predictor.specs.declared.fault.Stop.{Stop}
use Rattle.predictor.specs.declared.fault.Stop.TheVariants.{Faulty, Memory}
use Rattle.predictor.specs.declared.predicting.Prediction.{Prediction}
use Rattle.predictor.specs.Outcome.{line_start, opening_for, Whole, Stuck}
use Rattle.predictor.specs.Ruled.{Ruled}

-- the text spells the recording q, whose trace is open over so many event rows and has noted all its actions as the events es
pub record Ready (t : List ℕ) (room : ℕ) (q : Recording) (es : List Event) : Type 0 where
  pub right : Right t (reads q)
  pub opens : (opening_for q room).void ≡ None
  pub whole : Whole (opening_for q room) q.actions es

-- the part of the text that is the rule
abbrev pub rule_text : Recording → List ℕ
rule_text q = flat (formula q.rule [])

-- the place at which the rule begins, ahead of the last bracket and the end of the last line
abbrev pub Begins : List ℕ → Recording → Place → Type 0
Begins t q start = (at : ℕ) × (length t ≡ at + length (rule_text q) + 2) × (start ≡ byte_place t at)

-- the rows of pairs and the thread list are as they were
abbrev pub Left : List SearchRow → List ℕ → List SearchRow → List ℕ → Type 0
Left rows list rows' list' = (rows' ≡ rows) × (list' ≡ list)

abbrev pub judgement_of : Prediction → Judgement
judgement_of p = record { verdict = p.verdict; pairs = p.pairs }

-- The judgement by the recording's rule; or the first fault, of the text, the opening, the first event that is refused, the rule, the judgement.
-- Of want of memory it is said that nothing was written.
abbrev pub Predicted : List ℕ → ℕ → List SearchRow → List ℕ → Result Prediction Stop → List SearchRow → List ℕ → Type 0
Predicted t room rows list (Ok p) rows' list' =
    (q : Recording) × (es : List Event) × Ready t room q es × (p.events ≡ length es)
    × ((start : Place) × Ruled (opening_for q room) es (rule_text q) start rows list (Ok (judgement_of p)) rows' list')
Predicted t room rows list (Err (Faulty (Text cause))) rows' list' = Answers t (Err (read.Text cause)) × Left rows list rows' list'
Predicted t room rows list (Err (Faulty (Record (record-fault.Opening why) place))) rows' list' =
    (q : Recording) × Right t (reads q) × ((opening_for q room).void ≡ Some why) × (place ≡ line_start 1) × Left rows list rows' list'
Predicted t room rows list (Err (Faulty (Record (record-fault.Noting why) place))) rows' list' =
    (q : Recording) × Right t (reads q) × ((opening_for q room).void ≡ None)
    × ((es : List Event) × (i : ℕ) × Stuck (opening_for q room) q.actions es i why × (place ≡ line_start (2 + i))) × Left rows list rows' list'
Predicted t room rows list (Err (Faulty (Rule cause start))) rows' list' =
    (q : Recording) × (es : List Event) × Ready t room q es × Begins t q start
    × Ruled (opening_for q room) es (rule_text q) start rows list (Err (Rule cause start)) rows' list'
Predicted t room rows list (Err (Faulty (Search why))) rows' list' =
    (q : Recording) × (es : List Event) × Ready t room q es
    × ((start : Place) × Ruled (opening_for q room) es (rule_text q) start rows list (Err (Search why)) rows' list')
Predicted t room rows list (Err Memory) rows' list' = Left rows list rows' list'

-- the rule is false after some event of the run
abbrev pub Broken : List ℤ → Formula → List Action → Type 0
Broken starts f run = (m : ℕ) × (1 ≤ m) × (m ≤ length run) × (Holds starts run f m → ⊥)

-- a consistent run of the noted events that breaks the rule
abbrev pub BreaksRule : List ℤ → Formula → List Event → List ℕ → Type 0
BreaksRule starts f es r = Consistent es r × Broken starts f (actions es r)

-- The front of the list lists a consistent run that breaks the rule, and every other such run has the higher thread number at the first place
-- where the two differ.
pub record LeastBroken (starts : List ℤ) (f : Formula) (es : List Event) (list : List ℕ) : Type 0 where
  pub run : List ℕ
  pub breaks : BreaksRule starts f es run
  pub listed : take (length es) list ≡ thread_list es run
  pub others : (s : List ℕ) → BreaksRule starts f es s → (s ≢ run) → Higher (thread_list es run) (thread_list es s)

-- In the words of the rule: none is said exactly when no consistent run of the recording's events breaks its rule, and found with the least
-- such run.
pub record RuleTold (q : Recording) (es : List Event) (p : Prediction) (list : List ℕ) : Type 0 where
  pub none : p.verdict ≡ verdict.None → (r : List ℕ) → BreaksRule q.starts q.rule es r → ⊥
  pub never : ((r : List ℕ) → BreaksRule q.starts q.rule es r → ⊥) → p.verdict ≡ verdict.None
  pub found : p.verdict ≡ verdict.Found → LeastBroken q.starts q.rule es list

abbrev pub TellsRule : List ℕ → ℕ → Result Prediction Stop → List ℕ → Type 0
TellsRule t room (Ok p) list = (q : Recording) × (es : List Event) × Ready t room q es × RuleTold q es p list
TellsRule t room (Err why) list = Unit {0}
