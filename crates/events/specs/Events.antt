-- Events and what they say.
use Rattle.std.specs.Prelude.{ℕ}
use Rattle.events.specs.declared.event.Action.{Action}
use Rattle.events.specs.declared.event.Event.{Event}

-- what an event's thread did
abbrev pub action_of : Event → Action
action_of e = record { thread = e.thread; kind = e.kind; subject = e.subject; value = e.value }

-- the event that an action is at a place of its thread
abbrev pub event_at : ℕ → Action → Event
event_at place a = record { thread = a.thread; place = place; kind = a.kind; subject = a.subject; value = a.value }
