-- How a state takes in an action: why it refuses, and what it becomes.
use Rattle.std.specs.Prelude.{◌≡◌, ℕ, suc, Bool, cond, not, ◌&&◌, List, [], ◌∷◌, ◌++◌, ℤ, pos, Some, None, Ok, Err, Option, Result, ◌==◌, nat_le, nat_lt, slice_index, slice_index_or, slice_set}
use Rattle.events.specs.declared.event.Action.{Action}
use Rattle.events.specs.declared.lock.Lock.{Lock}
use Rattle.events.specs.declared.lock.Lock.TheVariants.{Free, Held}
use Rattle.events.specs.declared.refusal.Refusal.{Refusal}
use Rattle.events.specs.declared.refusal.Refusal.TheVariants as refusal
use Rattle.events.specs.First.{first_fit}
use Rattle.events.specs.Noting.{Opening, is_void, subjects, eq_z, free, held_by}
use Rattle.trace.specs.declared.admitted.Admitted.{Admitted}
use Rattle.trace.specs.Settings.{opening_with}
use Rattle.trace.specs.declared.state.State.{State}

-- what the trace was opened with, but for its rows
abbrev pub opening_but_rows : State → Opening
opening_but_rows s = opening_with s.setting 0

-- why an action is refused for its form: numbers 9 to 13
abbrev pub form_tests : State → Action → List (Bool × Refusal)
form_tests s a =
    (is_void (opening_but_rows s), refusal.Void)
    ∷ (nat_le (opening_but_rows s).threads a.thread, refusal.Thread)
    ∷ (nat_lt 4 a.kind, refusal.Kind)
    ∷ (nat_le (subjects (opening_but_rows s) a.kind) a.subject, refusal.Subject)
    ∷ []

-- why an action is refused for its value: numbers 14 and 15
abbrev pub value_tests : State → Action → List (Bool × Refusal)
value_tests s a =
    (nat_lt 2 a.kind && not (eq_z a.value (pos 0)), refusal.LockValue)
    ∷ (a.kind == 1 && not (eq_z a.value (slice_index_or s.values a.subject (pos 0))), refusal.ReadValue)
    ∷ []

-- why a lock refuses a thread's event of kind k: numbers 16 and 17
abbrev pub lock_tests : Lock → ℕ → ℕ → List (Bool × Refusal)
lock_tests l k t = (k == 3 && not (free l), refusal.Held) ∷ (k == 4 && not (held_by t l), refusal.NotHolder) ∷ []

-- why there is no room for one more event of thread t: numbers 18 and 19. A row is spare, or none is
abbrev pub room_tests : State → Bool → ℕ → List (Bool × Refusal)
room_tests s spare t = (nat_le 255 (slice_index s.counts t), refusal.ThreadFull) ∷ (not spare, refusal.RowsFull) ∷ []

-- all of them, in the order of the numbers
abbrev pub step_tests : State → Bool → Action → List (Bool × Refusal)
step_tests s spare a =
    form_tests s a
    ++ (value_tests s a
    ++ (lock_tests (slice_index_or s.locks a.subject Free) a.kind a.thread
    ++ room_tests s spare a.thread))

-- the reason, or else what a later check answers
abbrev pub or_else : Option Refusal → Result (Unit {0}) Refusal → Result (Unit {0}) Refusal
or_else (Some why) later = Err why
or_else None later = later

-- the action where it is right in form, or why it is refused
abbrev pub Admits : State → Action → Result Admitted Refusal → Type 0
Admits s a (Ok d) = (first_fit (form_tests s a) ≡ None) × (d.action ≡ a)
Admits s a (Err why) = first_fit (form_tests s a) ≡ Some why

-- the place of an event that is not refused
abbrev pub placed : Option Refusal → ℕ → Result ℕ Refusal
placed (Some why) n = Err why
placed None n = Ok n

-- what a check that answered r leaves: the new value, or on a refusal the old one
abbrev pub after : {A B : Type 0} → Result A Refusal → B → B → B
after (Ok x) new old = new
after (Err why) new old = old

-- the lock after a thread's event of kind k
abbrev pub lock_by : ℕ → ℕ → Lock → Lock
lock_by k t l = cond (k == 3) (Held t) (cond (k == 4) Free l)

-- the state with other values and locks
abbrev pub changed_to : State → List ℤ → List Lock → State
changed_to s vs ls =
    record {
      setting = s.setting;
      values = vs;
      locks = ls;
      counts = s.counts;
    }

-- the state after an action, but for the count
abbrev pub changed : State → Action → State
changed s a =
    changed_to s
    (slice_set s.values a.subject (cond (a.kind == 2) a.value (slice_index_or s.values a.subject (pos 0))))
    (slice_set s.locks a.subject (lock_by a.kind a.thread (slice_index_or s.locks a.subject Free)))

-- the place of a thread's next event
abbrev pub next_place : State → ℕ → ℕ
next_place s t = suc (slice_index s.counts t)

abbrev pub counted : State → ℕ → State
counted s t =
    record {
      setting = s.setting;
      values = s.values;
      locks = s.locks;
      counts = slice_set s.counts t (next_place s t);
    }

abbrev pub stepped : State → Action → State
stepped s a = counted (changed s a) a.thread
