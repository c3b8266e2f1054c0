-- What the look-ups add up.
use Rattle.std.specs.Prelude.{◌≡◌, ℕ, suc, ◌+◌, ◌<◌, ◌≤◌, ◌⊎◌, Bool, false, cond, not, ◌&&◌, ◌||◌, Option, List, Ok, Err, Result, ◌==◌, nat_le, nat_lt, slice_index}
use Rattle.events.specs.declared.event.Event.{Event}
use Rattle.follow.specs.declared.no_next.NoNext.{NoNext}
use Rattle.follow.specs.declared.no_next.NoNext.TheVariants as because
use Rattle.follow.specs.declared.role.Role.{Role}
use Rattle.follow.specs.declared.role.Role.TheVariants.{Lead, Take, Apart}
use Rattle.follow.specs.declared.tables.Tables.{Tables}
use Rattle.follow.specs.Balance.{over_threads}
use Rattle.follow.specs.Made.{standing_in, groups_in, tally_in, source_of}
use Rattle.follow.specs.Roles.{RoleOf}

-- a source is in the cut, or is none
abbrev pub HasSource : List ℕ → Option (ℕ × ℕ) → Type 0
HasSource cut source = (8 ≤ (source_of source).0) ⊎ ((source_of source).1 ≤ slice_index cut (source_of source).0)

-- object b in the cut, by thread: how many are led in, and how many are taken
abbrev pub led_in : Tables → List ℕ → ℕ → ℕ → ℕ
led_in tables cut b t = (tally_in tables t (slice_index cut t) b).led

abbrev pub taken_in : Tables → List ℕ → ℕ → ℕ → ℕ
taken_in tables cut b t = (tally_in tables t (slice_index cut t) b).taken

-- they do not add up to the same
abbrev pub unbalanced : Tables → List ℕ → ℕ → Bool
unbalanced tables cut b =
    not ((groups_in tables b).starting + over_threads (led_in tables cut b) 8 == over_threads (taken_in tables cut b) 8)

-- an event of this role is blocked
abbrev pub BlockedAs : Tables → List ℕ → Role → Bool → Type 0
BlockedAs tables cut (Lead o) r = (r ≡ unbalanced tables cut o.number) × ((t : ℕ) → t < 8 → slice_index cut t < 256)
BlockedAs tables cut (Take o) r = r ≡ false
BlockedAs tables cut Apart r = r ≡ false

abbrev pub BlockedBy : Tables → List ℕ → Event → Bool → Type 0
BlockedBy tables cut e r = (role : Role) × RoleOf e.kind e.subject role × BlockedAs tables cut role r

-- The same as functions, of any tables and any cut. Whether an event of kind k and subject s is blocked, as a write of a variable
-- or an acquire of a lock that does not add up:
abbrev pub blocked_for : Tables → List ℕ → ℕ → ℕ → Bool
blocked_for tables cut k s =
    cond (k == 2 && nat_lt s 32) (unbalanced tables cut s) (cond (k == 3 && nat_lt s 16) (unbalanced tables cut (32 + s)) false)

-- whether a source is in the cut, or is none
abbrev pub supplied_by : List ℕ → Option (ℕ × ℕ) → Bool
supplied_by cut source = nat_le 8 (source_of source).0 || nat_le (source_of source).1 (slice_index cut (source_of source).0)

-- what is said of the event e, which has this source
abbrev pub told_of : Tables → List ℕ → Option (ℕ × ℕ) → Event → Result Event NoNext
told_of tables cut source e =
    cond (supplied_by cut source) (cond (blocked_for tables cut e.kind e.subject) (Err because.Blocked) (Ok e)) (Err because.Missing)

-- what the tables answer of the cut and thread t
abbrev pub next_in : Tables → List ℕ → ℕ → Result Event NoNext
next_in tables cut t =
    cond (nat_le 8 t || nat_le (slice_index tables.counts t) (slice_index cut t)) (Err because.Done)
    (let standing = standing_in tables t (suc (slice_index cut t)) in told_of tables cut standing.source standing.event)
