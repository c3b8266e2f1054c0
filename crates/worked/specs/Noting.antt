-- Actions in short, and what is noted of them.
use Rattle.std.specs.Prelude.{ℕ, Bool, ◌&&◌, List, [], ◌∷◌, length, ℤ, pos, ◌==◌}
use Rattle.events.specs.declared.event.Action.{Action}
use Rattle.events.specs.declared.event.Event.{Event}
use Rattle.events.specs.Noting.{Opening, opened, refused, extended}
use Rattle.order.specs.Noted.{noted}

-- what a thread does: reads a value of a variable, writes it, acquires a lock, releases it
abbrev pub read : ℕ → ℕ → ℕ → Action
read t x v = record { thread = t; kind = 1; subject = x; value = pos v }

abbrev pub write : ℕ → ℕ → ℕ → Action
write t x v = record { thread = t; kind = 2; subject = x; value = pos v }

abbrev pub acquire : ℕ → ℕ → Action
acquire t l = record { thread = t; kind = 3; subject = l; value = pos 0 }

abbrev pub release : ℕ → ℕ → Action
release t l = record { thread = t; kind = 4; subject = l; value = pos 0 }

-- a trace of n threads, with these starting values and room for all events that a trace can have
abbrev pub trace_of : ℕ → List ℤ → Opening
trace_of n starts = opened n starts 1024

-- the list es, and then what is noted of the actions
abbrev noted_after : Opening → List Event → List Action → List Event
noted_after o es [] = es
noted_after o es (a ∷ actions) = noted_after o (extended (refused o es a) es a) actions

-- the noted list of the actions
abbrev pub events_of : Opening → List Action → List Event
events_of o actions = noted_after o [] actions

-- every action is noted
abbrev pub all_noted : Opening → List Action → Bool
all_noted o actions = length (events_of o actions) == length actions && noted o (events_of o actions)
