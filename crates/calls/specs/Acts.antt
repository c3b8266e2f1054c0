-- Lists of calls on one trace: what each may give, from the opening, the events noted ahead of it and what it is handed.
use Rattle.std.specs.Prelude.{◌≡◌, ℕ, List, length, take, Some, fold, Result}
use Rattle.std.specs.List.{slice_get}
use Rattle.events.specs.declared.event.Action.{Action}
use Rattle.events.specs.declared.event.Event.{Event}
use Rattle.events.specs.declared.refusal.Refusal.{Refusal}
use Rattle.events.specs.Noting.{Opening, refused, answer, extended}
use Rattle.order.specs.declared.row.Row.{Row}
use Rattle.monitor.specs.declared.runs.Verdict.{Verdict}
use Rattle.monitor.specs.Meaning.{Meaning}
use Rattle.replay.specs.declared.refusal.ReplayRefusal.{ReplayRefusal}
use Rattle.mapping.specs.declared.refusal.MapRefusal.{MapRefusal}
use Rattle.mapping.specs.Mapped.{Mapped}
use Rattle.judge.specs.declared.refusal.JudgeRefusal.{JudgeRefusal}
use Rattle.judge.specs.declared.row.SearchRow.{SearchRow}
use Rattle.judge.specs.declared.verdict.Judgement.{Judgement}
use Rattle.judge.specs.Judging.{Judged}
use Rattle.calls.specs.Replays.{Replays}

-- a call with what it is handed: an action; map rows; a monitor and a thread list; a monitor, rows for pairs and a thread list
pub data Act : Type 0 where
  to_note : Action → Act
  to_map : List Row → Act
  to_replay : Meaning → List ℕ → Act
  to_judge : Meaning → List SearchRow → List ℕ → Act

-- what a call gave: its answer, and what the rows and the list that it may write hold afterwards
pub data Outcome : Type 0 where
  gave_note : Result ℕ Refusal → Outcome
  gave_map : Result ℕ MapRefusal → List Row → Outcome
  gave_replay : Result Verdict ReplayRefusal → Outcome
  gave_judge : Result Judgement JudgeRefusal → List SearchRow → List ℕ → Outcome
  -- it was not performed
  gave_none : Outcome

-- what a call gives on a trace opened with o that has noted es
abbrev pub Gives : Opening → List Event → Act → Outcome → Type 0
Gives o es (to_note a) q = q ≡ gave_note (answer (refused o es a) es a)
Gives o es (to_map before) q = (r : Result ℕ MapRefusal) × (after : List Row) × (q ≡ gave_map r after) × Mapped o es before r after
Gives o es (to_replay m ts) q = (r : Result Verdict ReplayRefusal) × (q ≡ gave_replay r) × Replays o es m ts r
Gives o es (to_judge m rows list) q =
    (r : Result Judgement JudgeRefusal) × (rows' : List SearchRow) × (list' : List ℕ) × (q ≡ gave_judge r rows' list') × Judged o es m rows list r rows' list'

-- the noted list after a call: a note that is not refused adds its event, and no other call adds any
abbrev pub after : Opening → List Event → Act → List Event
after o es (to_note a) = extended (refused o es a) es a
after o es (to_map before) = es
after o es (to_replay m ts) = es
after o es (to_judge m rows list) = es

-- the events noted ahead of the k-th call, where `before` was noted ahead of the first
abbrev pub ahead : Opening → List Event → List Act → ℕ → List Event
ahead o before acts k = fold (after o) before (take k acts)

-- The calls were performed in their order on a trace opened with o that had noted `before`: each has an outcome, which it gives from the
-- events noted ahead of it, and `left` is noted in the end.
pub record Performed (o : Opening) (before : List Event) (acts : List Act) (outs : List Outcome) (left : List Event) : Type 0 where
  pub as_many : length outs ≡ length acts
  pub each : (k : ℕ) (a : Act) (q : Outcome) → slice_get acts k ≡ Some a → slice_get outs k ≡ Some q → Gives o (ahead o before acts k) a q
  pub leaves : left ≡ ahead o before acts (length acts)
