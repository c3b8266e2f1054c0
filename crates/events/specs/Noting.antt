-- What a trace is opened with, and which actions it notes as events: all from the opening and the list of the events noted so far.
use Rattle.std.specs.Prelude.{◌≡◌, ℕ, suc, Bool, true, false, cond, not, ◌&&◌, ◌||◌, List, [], ◌∷◌, ◌++◌, length, ℤ, pos, Some, None, Ok, Err, Option, Result, ◌==◌, int_lt, nat_le, nat_lt, slice_index_or}
use Rattle.events.specs.declared.event.Action.{Action}
use Rattle.events.specs.declared.event.Event.{Event}
use Rattle.events.specs.declared.lock.Lock.{Lock}
use Rattle.events.specs.declared.lock.Lock.TheVariants.{Free, Held}
use Rattle.events.specs.declared.refusal.OpenRefusal.{OpenRefusal}
use Rattle.events.specs.declared.refusal.OpenRefusal.TheVariants.{Threads, Variables, Rows}
use Rattle.events.specs.declared.refusal.Refusal.{Refusal}
use Rattle.events.specs.declared.refusal.Refusal.TheVariants as refusal
use Rattle.events.specs.Events.{event_at}
use Rattle.events.specs.First.{first_fit}

-- What a trace is opened with: the reason why it is void, if it is; the thread count; each variable's starting value; how many events its rows hold.
pub record Opening : Type 0 where
  pub void : Option OpenRefusal
  pub threads : ℕ
  pub starts : List ℤ
  pub room : ℕ

-- why an opening is refused, in the order of the numbers
abbrev pub open_tests : ℕ → List ℤ → ℕ → List (Bool × OpenRefusal)
open_tests threads starts room =
    (threads == 0 || nat_lt 8 threads, Threads) ∷ (nat_lt 32 (length starts), Variables) ∷ (nat_lt 1024 room, Rows) ∷ []

-- a refused opening keeps nothing but its reason
abbrev pub opened_as : Option OpenRefusal → ℕ → List ℤ → ℕ → Opening
opened_as (Some why) threads starts room = record { void = Some why; threads = 0; starts = []; room = 0 }
opened_as None threads starts room = record { void = None; threads = threads; starts = starts; room = room }

abbrev pub opened : ℕ → List ℤ → ℕ → Opening
opened threads starts room = opened_as (first_fit (open_tests threads starts room)) threads starts room

-- the starting values of a trace so opened, or the reason why it is void
abbrev pub opened_or_why : Opening → Result (List ℤ) OpenRefusal
opened_or_why o = elim o.void [ Some why ↦ Err why | None ↦ Ok o.starts ]

abbrev pub eq_z : ℤ → ℤ → Bool
eq_z a b = not (int_lt a b) && not (int_lt b a)

-- the event is of this kind and this subject
abbrev pub is_of : ℕ → ℕ → Event → Bool
is_of k s e = e.kind == k && e.subject == s

-- the value of variable x after the events: that of its latest write, or the value v that it had ahead of them
abbrev pub latest : ℤ → ℕ → List Event → ℤ
latest v x [] = v
latest v x (e ∷ es) = latest (cond (is_of 2 x e) e.value v) x es

-- lock l after the events, where it was k ahead of them
abbrev pub lock_after : Lock → ℕ → List Event → Lock
lock_after k l [] = k
lock_after k l (e ∷ es) = lock_after (cond (is_of 3 l e) (Held e.thread) (cond (is_of 4 l e) Free k)) l es

-- how many of the events are of thread t
abbrev pub count_of : ℕ → List Event → ℕ
count_of t [] = 0
count_of t (e ∷ es) = cond (e.thread == t) (suc (count_of t es)) (count_of t es)

abbrev pub free : Lock → Bool
free Free = true
free (Held h) = false

abbrev pub held_by : ℕ → Lock → Bool
held_by t Free = false
held_by t (Held h) = h == t

-- how many subjects a kind has: labels, variables or locks
abbrev pub subjects : Opening → ℕ → ℕ
subjects o k = cond (k == 0) 32 (cond (nat_lt k 3) (length o.starts) 16)

abbrev pub is_void : Opening → Bool
is_void o = elim o.void [ Some why ↦ true | None ↦ false ]

-- variable x's value, and lock l, when the events es are noted
abbrev pub value_now : Opening → List Event → ℕ → ℤ
value_now o es x = latest (slice_index_or o.starts x (pos 0)) x es

abbrev pub lock_now : List Event → ℕ → Lock
lock_now es l = lock_after Free l es

-- why an action is refused when the events es are noted, in the order of the numbers
abbrev pub note_tests : Opening → List Event → Action → List (Bool × Refusal)
note_tests o es a =
    (is_void o, refusal.Void)
    ∷ (nat_le o.threads a.thread, refusal.Thread)
    ∷ (nat_lt 4 a.kind, refusal.Kind)
    ∷ (nat_le (subjects o a.kind) a.subject, refusal.Subject)
    ∷ (nat_lt 2 a.kind && not (eq_z a.value (pos 0)), refusal.LockValue)
    ∷ (a.kind == 1 && not (eq_z a.value (value_now o es a.subject)), refusal.ReadValue)
    ∷ (a.kind == 3 && not (free (lock_now es a.subject)), refusal.Held)
    ∷ (a.kind == 4 && not (held_by a.thread (lock_now es a.subject)), refusal.NotHolder)
    ∷ (nat_le 255 (count_of a.thread es), refusal.ThreadFull)
    ∷ (nat_le o.room (length es), refusal.RowsFull)
    ∷ []

abbrev pub refused : Opening → List Event → Action → Option Refusal
refused o es a = first_fit (note_tests o es a)

-- the event that the action would be
abbrev pub noting : List Event → Action → Event
noting es a = event_at (suc (count_of a.thread es)) a

-- what note answers: the event's place, or why it is refused
abbrev pub answer : Option Refusal → List Event → Action → Result ℕ Refusal
answer (Some why) es a = Err why
answer None es a = Ok (suc (count_of a.thread es))

-- the noted list afterwards: a refused action leaves it, any other is its last event
abbrev pub extended : Option Refusal → List Event → Action → List Event
extended (Some why) es a = es
extended None es a = es ++ noting es a ∷ []

-- The lists that a trace so opened can have noted: each event was accepted after those ahead of it.
pub data Noted (o : Opening) : List Event → Type 0 where
  none : Noted o []
  more : {es : List Event} (a : Action) → Noted o es → refused o es a ≡ None → Noted o (es ++ noting es a ∷ [])
