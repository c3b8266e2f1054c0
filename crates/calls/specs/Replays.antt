-- What a replay on a trace answers.
use Rattle.std.specs.Prelude.{◌≡◌, ℕ, List, is_ok, Some, None, Err, Decides, Option, Result}
use Rattle.events.specs.declared.event.Event.{Event}
use Rattle.events.specs.declared.refusal.OpenRefusal.{OpenRefusal}
use Rattle.events.specs.Noting.{Opening, Noted}
use Rattle.order.specs.Runs.{RunOf}
use Rattle.monitor.specs.declared.runs.Verdict.{Verdict}
use Rattle.monitor.specs.Meaning.{Meaning}
use Rattle.replay.specs.declared.refusal.ReplayRefusal.{ReplayRefusal}
use Rattle.replay.specs.declared.refusal.ReplayRefusal.TheVariants.{Void}
use Rattle.replay.specs.Outcome.{Outcome}

-- a void trace is refused ahead of any other check; any other has the list replayed
abbrev pub ReplaysAs : Option OpenRefusal → ℕ → List Event → Meaning → List ℕ → Result Verdict ReplayRefusal → Type 0
ReplaysAs (Some why) threads es m ts r = r ≡ Err Void
ReplaysAs None threads es m ts r = Outcome m es threads ts r

-- a replay of the thread list ts, under a monitor that means m, on a trace opened with o that has noted es, answers r
abbrev pub Replays : Opening → List Event → Meaning → List ℕ → Result Verdict ReplayRefusal → Type 0
Replays o es m ts r = ReplaysAs o.void o.threads es m ts r

-- it is granted exactly when the trace is not void and the list is that of a consistent run
abbrev pub Granted : Opening → List Event → List ℕ → Result Verdict ReplayRefusal → Type 0
Granted o es ts r = Decides (is_ok r) ((o.void ≡ None) × RunOf es ts)

-- One answer is right: the verdict, or the first refusal that fits.
abbrev pub OneReplay : Type 0
OneReplay = (o : Opening) (es : List Event) → Noted o es → (m : Meaning) (ts : List ℕ) (r s : Result Verdict ReplayRefusal)
    → Replays o es m ts r → Replays o es m ts s → r ≡ s
