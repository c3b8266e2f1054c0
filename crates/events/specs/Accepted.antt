-- A test of noted lists: each event was accepted after those ahead of it, and has the next place of its thread.
use Rattle.std.specs.Prelude.{suc, Bool, true, not, ◌&&◌, List, [], ◌∷◌, ◌++◌, is_some, ◌==◌}
use Rattle.events.specs.declared.event.Event.{Event}
use Rattle.events.specs.Events.{action_of}
use Rattle.events.specs.Noting.{Opening, count_of, refused}

-- the event could be noted after the events ahead
abbrev pub accepted_after : Opening → List Event → Event → Bool
accepted_after o ahead e = not (is_some (refused o ahead (action_of e))) && e.place == suc (count_of e.thread ahead)

-- each of the events could, after the events ahead and those before it
abbrev pub accepted_from : Opening → List Event → List Event → Bool
accepted_from o ahead [] = true
accepted_from o ahead (e ∷ es) = accepted_after o ahead e && accepted_from o (ahead ++ e ∷ []) es

abbrev pub accepted : Opening → List Event → Bool
accepted o es = accepted_from o [] es
