-- A noted list and its events. An event is named by its number in the list, from 0.
use Rattle.std.specs.Prelude.{◌≡◌, ℕ, ◌<◌, ◌⊎◌, List, length, ℤ, pos, slice_index_or}
use Rattle.events.specs.declared.event.Event.{Event}

-- read only past the end of a list
abbrev pub blank : Event
blank = record { thread = 0; place = 0; kind = 0; subject = 0; value = pos 0 }

-- the thread of event i, its place, the number of its kind, its subject and its value
abbrev pub thread_at : List Event → ℕ → ℕ
thread_at es i = (slice_index_or es i blank).thread

abbrev pub place_at : List Event → ℕ → ℕ
place_at es i = (slice_index_or es i blank).place

abbrev pub kind_at : List Event → ℕ → ℕ
kind_at es i = (slice_index_or es i blank).kind

abbrev pub subject_at : List Event → ℕ → ℕ
subject_at es i = (slice_index_or es i blank).subject

abbrev pub value_at : List Event → ℕ → ℤ
value_at es i = (slice_index_or es i blank).value

-- event i is noted, of the kind with the number k, and of subject s
pub record Is (es : List Event) (k s i : ℕ) : Type 0 where
  pub noted : i < length es
  pub kind : kind_at es i ≡ k
  pub subject : subject_at es i ≡ s

-- event i reads variable x, writes it, acquires lock l, releases it
abbrev pub Reads : List Event → ℕ → ℕ → Type 0
Reads es x i = Is es 1 x i

abbrev pub Writes : List Event → ℕ → ℕ → Type 0
Writes es x i = Is es 2 x i

abbrev pub Acquires : List Event → ℕ → ℕ → Type 0
Acquires es l i = Is es 3 l i

abbrev pub Releases : List Event → ℕ → ℕ → Type 0
Releases es l i = Is es 4 l i

-- what threads share
pub data Object : Type 0 where
  variable : ℕ → Object
  lock : ℕ → Object

-- event i is an event of this variable or lock
abbrev pub Of : List Event → Object → ℕ → Type 0
Of es (variable x) i = Reads es x i ⊎ Writes es x i
Of es (lock l) i = Acquires es l i ⊎ Releases es l i
