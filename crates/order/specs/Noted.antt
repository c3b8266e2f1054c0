-- What makes an action one that is noted, and the test of noted lists.
use Rattle.std.specs.Prelude.{◌≡◌, suc, ◌<◌, ◌≤◌, Bool, true, false, ◌&&◌, List, length, take, pos, Some, None, Option, ◌==◌, slice_index_or}
use Rattle.events.specs.declared.event.Action.{Action}
use Rattle.events.specs.declared.event.Event.{Event}
use Rattle.events.specs.declared.lock.Lock.TheVariants.{Free, Held}
use Rattle.events.specs.declared.refusal.Refusal.{Refusal}
use Rattle.events.specs.Events.{action_of}
use Rattle.events.specs.Noting.{Opening, is_void, subjects, value_now, lock_now, count_of, refused}
use Rattle.order.specs.Trace.{blank}
use Rattle.order.specs.Tests.{every}

-- the action is not refused when the events es are noted
pub record Allowed (o : Opening) (es : List Event) (a : Action) : Type 0 where
  pub valid : is_void o ≡ false
  pub thread : a.thread < o.threads
  pub kind : a.kind ≤ 4
  pub subject : a.subject < subjects o a.kind
  pub lock_value : 2 < a.kind → a.value ≡ pos 0
  pub read_value : a.kind ≡ 1 → a.value ≡ value_now o es a.subject
  pub acquired : a.kind ≡ 3 → lock_now es a.subject ≡ Free
  pub released : a.kind ≡ 4 → lock_now es a.subject ≡ Held a.thread
  pub few : count_of a.thread es < 255
  pub room : length es < o.room

-- there is no refusal
abbrev pub not_refused : Option Refusal → Bool
not_refused (Some why) = false
not_refused None = true

-- the event was noted right after the events es
abbrev pub noted_after : Opening → List Event → Event → Bool
noted_after o es e = not_refused (refused o es (action_of e)) && e.place == suc (count_of e.thread es)

-- each event was noted after those ahead of it
abbrev pub noted : Opening → List Event → Bool
noted o es = every (λ i. noted_after o (take i es) (slice_index_or es i blank)) (length es)
