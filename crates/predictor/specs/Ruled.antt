-- What judging a trace by a rule's text comes to.
use Rattle.std.specs.Prelude.{◌≡◌, ℕ, List, Ok, Err, Result}
use Rattle.events.specs.declared.event.Event.{Event}
use Rattle.events.specs.Noting.{Opening}
use Rattle.formula.specs.declared.formula.Formula.{Formula as Compiled}
use Rattle.formula.specs.Making.{MadeOver, WatchesText}
use Rattle.formula.specs.Meant.{meant}
use Rattle.judge.specs.declared.row.SearchRow.{SearchRow}
use Rattle.judge.specs.declared.verdict.Judgement.{Judgement}
use Rattle.judge.specs.Judging.{Judged}
use Rattle.judge.specs.Said.{SaysNone, SaysFound}
use Rattle.text.specs.declared.place.Place.{Place}
use Rattle.predictor.specs.declared.fault.Fault.{Fault}
use Rattle.predictor.specs.declared.fault.Fault.TheVariants.{Text, Record, Rule, Search}

-- The rule is made, and the trace judged by what it means. A rule that is refused leaves the rows of pairs and the thread list.
abbrev pub Ruled : Opening → List Event → List ℕ → Place → List SearchRow → List ℕ → Result Judgement Fault → List SearchRow → List ℕ → Type 0
Ruled o es t start rows list (Ok j) rows' list' =
    (c : Compiled) × MadeOver o t (Ok c) × WatchesText o.starts t (Ok c)
    × Judged o es (meant c) rows list (Ok j) rows' list' × SaysNone es (meant c) (Ok j) × SaysFound es (meant c) (Ok j) list'
Ruled o es t start rows list (Err (Search why)) rows' list' =
    (c : Compiled) × MadeOver o t (Ok c) × Judged o es (meant c) rows list (Err why) rows' list'
Ruled o es t start rows list (Err (Rule cause at)) rows' list' = MadeOver o t (Err cause) × (at ≡ start) × (rows' ≡ rows) × (list' ≡ list)
Ruled o es t start rows list (Err (Record cause at)) rows' list' = ⊥
Ruled o es t start rows list (Err (Text cause)) rows' list' = ⊥
