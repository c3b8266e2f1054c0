-- Where an event stands in its thread, and the event that stands there.
use Rattle.std.specs.Prelude.{◌≡◌, ℕ, ◌<◌, Bool, ◌&&◌, List, length, Some, None, Option, ◌==◌, slice_index_or}
use Rattle.std.specs.List.{slice_get}
use Rattle.events.specs.declared.event.Event.{Event}
use Rattle.rows.specs.First.{first_of, NoneBelow}
use Rattle.trace.specs.declared.place.Place.{Place}

abbrev pub place_of : Event → Place
place_of e = record { thread = e.thread; place = e.place }

abbrev pub is_at : Place → Event → Bool
is_at p e = e.thread == p.thread && e.place == p.place

-- the row at a place of the list that was found, if one was
abbrev pub row_at : List Event → Option ℕ → Option Event
row_at es (Some i) = slice_get es i
row_at es None = None

-- the first event at the place
abbrev pub event_by : Place → List Event → Option Event
event_by p es = row_at es (first_of (is_at p) es)

-- In words: the event that is found is one of the list, at the place, and no earlier one is; where none is found, none stands there.
abbrev pub StandsAt : Place → List Event → Option Event → Type 0
StandsAt p es (Some e) = (place_of e ≡ p) × ((i : ℕ) × (i < length es) × ((d : Event) → e ≡ slice_index_or es i d) × NoneBelow place_of p es i)
StandsAt p es None = NoneBelow place_of p es (length es)
