-- What noting the actions of a recording comes to.
use Rattle.std.specs.Prelude.{◌≡◌, ℕ, ◌+◌, ◌<◌, List, map, length, take, pos, Some, None, Ok, Err, Option, Result, slice_index_or}
use Rattle.events.specs.declared.event.Action.{Action}
use Rattle.events.specs.declared.event.Event.{Event}
use Rattle.events.specs.declared.refusal.OpenRefusal.{OpenRefusal}
use Rattle.events.specs.declared.refusal.Refusal.{Refusal}
use Rattle.events.specs.Events.{action_of}
use Rattle.events.specs.Noting.{Opening, opened, refused, Noted}
use Rattle.grammar.specs.Recording.{Recording}
use Rattle.text.specs.declared.place.Place.{Place}
use Rattle.predictor.specs.declared.fault.RecordFault.TheVariants as record-fault
use Rattle.predictor.specs.declared.fault.Fault.{Fault}
use Rattle.predictor.specs.declared.fault.Fault.TheVariants.{Record}

-- a line's first byte
abbrev pub line_start : ℕ → Place
line_start n = record { line = n; column = 1 }

-- read only past the end of the actions
abbrev pub no_action : Action
no_action = record { thread = 0; kind = 0; subject = 0; value = pos 0 }

-- what is said of an opening
abbrev pub opens : Option OpenRefusal → Result (Unit {0}) Fault
opens (Some why) = Err (Record (record-fault.Opening why) (line_start 1))
opens None = Ok tt

-- what is said of an event, noted from a line
abbrev pub placed : Result ℕ Refusal → ℕ → Result ℕ Fault
placed (Ok place) n = Ok place
placed (Err why) n = Err (Record (record-fault.Noting why) (line_start n))

-- the actions were noted as the events es, all of them
pub record Whole (o : Opening) (actions : List Action) (es : List Event) : Type 0 where
  pub noted : Noted o es
  pub all : map action_of es ≡ actions

-- action i is the first that is refused, those ahead of it being noted as the events es
pub record Stuck (o : Opening) (actions : List Action) (es : List Event) (i : ℕ) (why : Refusal) : Type 0 where
  pub inside : i < length actions
  pub noted : Noted o es
  pub ahead : map action_of es ≡ take i actions
  pub refusal : refused o es (slice_index_or actions i no_action) ≡ Some why

-- what noting the actions gives and leaves; the first event stands on line 2
abbrev pub NotesAll : Opening → List Action → Result (Unit {0}) Fault → List Event → Type 0
NotesAll o actions (Ok u) es = Whole o actions es
NotesAll o actions (Err f) es = (i : ℕ) × (why : Refusal) × Stuck o actions es i why × (f ≡ Record (record-fault.Noting why) (line_start (2 + i)))

-- the opening that a recording asks for, over so many event rows
abbrev pub opening_for : Recording → ℕ → Opening
opening_for q room = opened q.threads q.starts room
