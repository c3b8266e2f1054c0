-- Replays on a trace: one answer is right, and which are granted.
use Rattle.std.proofs.Common.{◌≡◌, ℕ, false, List, is_some, is_ok, Some, None, Ok, Err, Decides, Option, Result, sym, refl, ◌∙◌}
use Rattle.events.specs.declared.event.Event.{Event}
use Rattle.events.specs.declared.refusal.OpenRefusal.{OpenRefusal}
use Rattle.events.specs.Noting.{Opening, Noted}
use Rattle.order.specs.Runs.{RunOf}
use Rattle.order.proofs.Noting.{sound_of, within_of}
use Rattle.monitor.specs.declared.runs.Verdict.{Verdict}
use Rattle.monitor.specs.Meaning.{Meaning}
use Rattle.replay.specs.declared.refusal.ReplayRefusal.{ReplayRefusal}
use Rattle.replay.specs.Outcome.{Outcome}
use Rattle.replay.proofs.One.{one_outcome}
use Rattle.calls.specs.Replays.{ReplaysAs, Replays, Granted, OneReplay}

one_as : (void : Option OpenRefusal) (o : Opening) (es : List Event) → Noted o es → (m : Meaning) (ts : List ℕ) (r s : Result Verdict ReplayRefusal)
    → ReplaysAs void o.threads es m ts r → ReplaysAs void o.threads es m ts s → r ≡ s
one_as (Some why) o es noted m ts r s x y = x ∙ sym y
one_as None o es noted m ts r s x y = one_outcome m es (sound_of o es noted) o.threads (within_of o es noted).threads ts r s x y

pub one_replay : OneReplay
one_replay o es noted m ts r s x y = one_as o.void o es noted m ts r s x y

module _ (m : Meaning) (es : List Event) (n : ℕ) (ts : List ℕ) where
  granted_as : (void : Option OpenRefusal) (r : Result Verdict ReplayRefusal) → ReplaysAs void n es m ts r → Decides (is_ok r) ((void ≡ None) × RunOf es ts)
  granted_as (Some why) (Ok v) x = absurd cc
  granted_as (Some why) (Err e) x = (
    λ h. absurd cc,
    λ h. let q = h.0 in absurd cc,
  )
  granted_as None (Ok v) x = (λ h. (refl, (x.run, x.consistent, x.threads)), λ h. refl)
  granted_as None (Err e) x = (λ h. absurd cc, λ h. absurd (x.1 h.1))

pub granted : (o : Opening) (es : List Event) (m : Meaning) (ts : List ℕ) (r : Result Verdict ReplayRefusal) → Replays o es m ts r → Granted o es ts r
granted o es m ts r x = granted_as m es o.threads ts o.void r x

-- where the trace is not void
open_as : (void : Option OpenRefusal) (n : ℕ) (es : List Event) (m : Meaning) (ts : List ℕ) (r : Result Verdict ReplayRefusal)
    → is_some void ≡ false → Outcome m es n ts r → ReplaysAs void n es m ts r
open_as (Some why) n es m ts r e h = absurd cc
open_as None n es m ts r e h = h

pub when_open : (o : Opening) (es : List Event) (m : Meaning) (ts : List ℕ) (r : Result Verdict ReplayRefusal)
    → is_some o.void ≡ false → Outcome m es o.threads ts r → Replays o es m ts r
when_open o es m ts r e h = open_as o.void o.threads es m ts r e h
