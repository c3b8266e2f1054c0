-- What holds of every list of calls, in the words of runs.
use Rattle.std.specs.Prelude.{◌≡◌, ℕ, ◌≤◌, List, [], take, ℤ, Some, Ok, Result}
use Rattle.std.specs.List.{slice_get}
use Rattle.events.specs.declared.event.Event.{Event}
use Rattle.events.specs.Noting.{Opening, opened, Noted}
use Rattle.order.specs.declared.row.Row.{Row}
use Rattle.order.specs.Runs.{RunAmong}
use Rattle.monitor.specs.declared.runs.Verdict.{Verdict}
use Rattle.monitor.specs.Meaning.{Meaning}
use Rattle.replay.specs.declared.refusal.ReplayRefusal.{ReplayRefusal}
use Rattle.judge.specs.declared.row.SearchRow.{SearchRow}
use Rattle.judge.specs.declared.verdict.Judgement.{Judgement}
use Rattle.judge.specs.declared.verdict.Verdict.TheVariants as verdict
use Rattle.judge.specs.Said.{NoneBreaks, LeastBreak}
use Rattle.calls.specs.Replays.{Granted}
use Rattle.calls.specs.Acts.{Act, to_map, to_replay, to_judge, Outcome, gave_map, gave_replay, gave_judge, Gives, ahead, Performed}

-- the k-th call is a granted map, and wrote these rows
pub record MapAt (acts : List Act) (outs : List Outcome) (k : ℕ) (written : List Row) : Type 0 where
  pub before : List Row
  pub after : List Row
  pub count : ℕ
  pub asked : slice_get acts k ≡ Some (to_map before)
  pub granted : slice_get outs k ≡ Some (gave_map (Ok count) after)
  pub front : written ≡ take count after

-- the k-th call is a replay of the thread list ts, and answered r
pub record ReplayAt (acts : List Act) (outs : List Outcome) (k : ℕ) (ts : List ℕ) (r : Result Verdict ReplayRefusal) : Type 0 where
  pub monitor : Meaning
  pub asked : slice_get acts k ≡ Some (to_replay monitor ts)
  pub answered : slice_get outs k ≡ Some (gave_replay r)

-- the k-th call is a granted judge of the monitor m, answered j and left this thread list
pub record JudgeAt (acts : List Act) (outs : List Outcome) (k : ℕ) (m : Meaning) (j : Judgement) (list : List ℕ) : Type 0 where
  pub rows : List SearchRow
  pub threads : List ℕ
  pub after : List SearchRow
  pub asked : slice_get acts k ≡ Some (to_judge m rows threads)
  pub granted : slice_get outs k ≡ Some (gave_judge (Ok j) after list)

-- The rows of a granted map of one list and of one of another are equal exactly when the events noted ahead of the first, in the order noted,
-- are a consistent run of those noted ahead of the second. By `f` and `g` are named the events noted ahead of each call.
abbrev pub MapsTell : (ℕ → List Event) → List Act → List Outcome → (ℕ → List Event) → List Act → List Outcome → Type 0
MapsTell f acts outs g others theirs = (i j : ℕ) (v w : List Row) → MapAt acts outs i v → MapAt others theirs j w
    → (v ≡ w → RunAmong (f i) (g j)) × (RunAmong (f i) (g j) → v ≡ w)

-- Of calls on a trace opened with o that had noted `before`:
pub record Lawful (o : Opening) (before : List Event) (acts : List Act) (outs : List Outcome) : Type 0 where
  -- any two maps of the list tell which noted lists are runs of each other,
  pub maps : MapsTell (ahead o before acts) acts outs (ahead o before acts) acts outs
  -- and so does a map of it with a map of any other list of calls, on this trace or another, whatever that was opened with
  pub other_maps : (p : Opening) (earlier : List Event) (others : List Act) (theirs : List Outcome) (left : List Event)
      → Noted p earlier → Performed p earlier others theirs left → MapsTell (ahead o before acts) acts outs (ahead p earlier others) others theirs
  -- a judge says none exactly when no consistent run of the events noted ahead of it violates its monitor
  pub none : (k : ℕ) (m : Meaning) (j : Judgement) (list : List ℕ) → JudgeAt acts outs k m j list
      → (j.verdict ≡ verdict.None → NoneBreaks (ahead o before acts k) m) × (NoneBreaks (ahead o before acts k) m → j.verdict ≡ verdict.None)
  -- where it says found, its thread list then begins with the least consistent run that does
  pub found : (k : ℕ) (m : Meaning) (j : Judgement) (list : List ℕ) → JudgeAt acts outs k m j list
      → j.verdict ≡ verdict.Found → LeastBreak (ahead o before acts k) m list
  -- a replay is granted exactly when the trace is not void and its list is that of a consistent run of the events noted ahead of it
  pub replays : (k : ℕ) (ts : List ℕ) (r : Result Verdict ReplayRefusal) → ReplayAt acts outs k ts r → Granted o (ahead o before acts k) ts r
  -- what a call answers and leaves is fixed: nothing else may be given in its place,
  pub one : (k : ℕ) (a : Act) (q : Outcome) → slice_get acts k ≡ Some a → Gives o (ahead o before acts k) a q → slice_get outs k ≡ Some q
  -- and the same calls, performed again from the same start, give the same
  pub fixed : (others : List Outcome) (left : List Event) → Performed o before acts others left → others ≡ outs

-- Every list of calls that is performed from a noted list is lawful, where the trace has at most 8 threads, as every trace has:
abbrev pub EveryListLawful : Type 0
EveryListLawful = (o : Opening) (before : List Event) (acts : List Act) (outs : List Outcome) (left : List Event)
    → Noted o before → o.threads ≤ 8 → Performed o before acts outs left → Lawful o before acts outs

-- from whatever opening on, the calls performed since are lawful.
abbrev pub LawfulFromOpening : Type 0
LawfulFromOpening = (threads : ℕ) (starts : List ℤ) (room : ℕ) (acts : List Act) (outs : List Outcome) (left : List Event)
    → Performed (opened threads starts room) [] acts outs left → Lawful (opened threads starts room) [] acts outs
