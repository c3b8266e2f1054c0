-- A call of a list as what it is handed, what it gave, and what of it stays.
use Rattle.std.specs.Prelude.{ℕ, List, length, Some, None, vec_items, Option}
use Rattle.events.specs.declared.event.Action.{Action}
use Rattle.monitor.specs.Meaning.{Meaning}
use Rattle.calls.specs.declared.call.Call.{Call}
use Rattle.calls.specs.declared.call.Call.TheVariants.{Note, Map, Replay, Judge}
use Rattle.calls.specs.Acts.{Act, to_note, to_map, to_replay, to_judge, Outcome, gave_note, gave_map, gave_replay, gave_judge, gave_none}

-- what it is handed, where f gives the meaning of its monitor
abbrev pub asked : {M : Type 0} → (M → Meaning) → Call M → Act
asked f (Note action answer) = to_note action
asked f (Map rows answer) = to_map (vec_items rows)
asked f (Replay threads monitor answer) = to_replay (f monitor) (vec_items threads)
asked f (Judge monitor rows threads answer) = to_judge (f monitor) (vec_items rows) (vec_items threads)

-- an answer that stands there
abbrev pub answered : {R : Type 0} → (R → Outcome) → Option R → Outcome
answered f (Some r) = f r
answered f None = gave_none

-- what it gave
abbrev pub given : {M : Type 0} → Call M → Outcome
given (Note action answer) = answered gave_note answer
given (Map rows answer) = answered (λ r. gave_map r (vec_items rows)) answer
given (Replay threads monitor answer) = answered gave_replay answer
given (Judge monitor rows threads answer) = answered (λ r. gave_judge r (vec_items rows) (vec_items threads)) answer

-- what of a call stays as it is: its action, its monitor, the list that it replays, how many rows it has, and how long its list is
pub data Kept (M : Type 0) : Type 0 where
  note : Action → Kept M
  map : ℕ → Kept M
  replay : List ℕ → M → Kept M
  judge : M → ℕ → ℕ → Kept M

abbrev pub kept : {M : Type 0} → Call M → Kept M
kept (Note action answer) = note action
kept (Map rows answer) = map (length (vec_items rows))
kept (Replay threads monitor answer) = replay (vec_items threads) monitor
kept (Judge monitor rows threads answer) = judge monitor (length (vec_items rows)) (length (vec_items threads))
