-- What a trace means: what it was opened with, and the events that it has noted.
use Rattle.std.specs.Prelude.{◌≡◌, ℕ, List, length, Some, None, Option, slice_set}
use Rattle.std.specs.Borrow.{GName}
use Rattle.events.specs.declared.event.Action.{Action}
use Rattle.events.specs.declared.event.Event.{Event}
use Rattle.events.specs.declared.refusal.OpenRefusal.{OpenRefusal}
use Rattle.events.specs.declared.refusal.Refusal.{Refusal}
use Rattle.events.specs.Numbers.{open_number}
use Rattle.events.specs.Noting.{Opening, refused, noting}
use Rattle.rows.specs.Listed.{lent, listed, loan}
use Rattle.trace.specs.declared.Trace.{Trace}
use Rattle.trace.specs.Fields.{opening_in}

abbrev pub opening_of : Trace → Opening
opening_of t = opening_in t.state t.rows

abbrev pub noted_of : Trace → List Event
noted_of t = listed t.rows

-- every row that was lent, and the loan
abbrev pub rows_of : Trace → List Event
rows_of t = lent t.rows

abbrev pub loan_of : Trace → GName
loan_of t = loan t.rows

-- why the trace refuses an action, if it does
abbrev pub refused_by : Trace → Action → Option Refusal
refused_by t a = refused (opening_of t) (noted_of t) a

-- every row afterwards: the accepted event is the row after the noted ones, and a refusal leaves all
abbrev pub rows_after : Option Refusal → Trace → Action → List Event
rows_after (Some why) t a = rows_of t
rows_after None t a = slice_set (rows_of t) (length (noted_of t)) (noting (noted_of t) a)

-- a refusal leaves the whole trace
abbrev pub KeptBy : Option Refusal → Trace → Trace → Type 0
KeptBy (Some why) t u = u ≡ t
KeptBy None t u = Unit {0}

-- the number of the reason why a trace is void, and 0 where it is not
abbrev pub void_number : Option OpenRefusal → ℕ
void_number (Some why) = open_number why
void_number None = 0
