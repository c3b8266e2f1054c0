-- How the tables take in events one by one, and sum up.
use Rattle.std.specs.Prelude.{◌≡◌, ℕ, suc, ◌+◌, ◌%◌, ◌^◌, ◌<◌, Bool, false, cond, Some, None, Option, List, replicate, ◌≢◌, nat_lt, slice_set}
use Rattle.events.specs.declared.event.Event.{Event}
use Rattle.order.specs.Trace.{blank}
use Rattle.follow.specs.declared.role.Role.{Role}
use Rattle.follow.specs.declared.role.Role.TheVariants.{Lead, Take, Apart}
use Rattle.follow.specs.declared.tables.Groups.{Groups}
use Rattle.follow.specs.declared.tables.Tables.{Tables}
use Rattle.follow.specs.declared.tables.Tally.{Tally}
use Rattle.follow.specs.Made.{slot_of, cell_of, groups_in, tally_at, tally_in, source_of}
use Rattle.follow.specs.Roles.{RoleOf}

abbrev pub blank_tables : Tables
blank_tables = record {
  total = 0;
  counts = replicate 8 0;
  standings = replicate 2048 (record { event = blank; source = None });
  groups = replicate 48 (record { latest = None; starting = 0 });
  tallies = replicate 98304 (record { led = 0; taken = 0 });
}

-- one more, in 16 bits
abbrev pub one_more : ℕ → ℕ
one_more n = (n + 1) % 2 ^ 16

-- one more led or taken in a tally, and one more in a starting group
abbrev pub more_led : Tally → Tally
more_led x = record { led = one_more x.led; taken = x.taken }

abbrev pub more_taken : Tally → Tally
more_taken x = record { led = x.led; taken = one_more x.taken }

abbrev pub more_starting : Groups → Groups
more_starting x = record { latest = x.latest; starting = one_more x.starting }

-- two tallies added
abbrev pub both : Tally → Tally → Tally
both x y = record { led = (x.led + y.led) % 2 ^ 16; taken = (x.taken + y.taken) % 2 ^ 16 }

-- the event stands at its thread and place, and so does its source
abbrev pub placed : Tables → Event → Option (ℕ × ℕ) → Tables
placed v e source = record {
  total = v.total;
  counts = slice_set v.counts e.thread e.place;
  standings = slice_set v.standings (slot_of e.thread e.place) (record { event = e; source = source });
  groups = v.groups;
  tallies = v.tallies;
}

-- it is the latest of object b to lead
abbrev pub leading : Tables → Event → ℕ → Tables
leading v e b = record {
  total = v.total;
  counts = v.counts;
  standings = v.standings;
  groups = slice_set v.groups b (record { latest = Some (e.thread, e.place); starting = (groups_in v b).starting });
  tallies = v.tallies;
}

-- there is a source, and it is of a thread that a trace can have
abbrev pub is_fed : Option (ℕ × ℕ) → Bool
is_fed (Some source) = nat_lt source.0 8
is_fed None = false

-- the tallies with the event counted at object b as taken where it stands, and as led where its source stands
abbrev pub with_taken : Tables → Event → ℕ → List Tally
with_taken v e b = slice_set v.tallies (cell_of e.thread e.place b) (more_taken (tally_in v e.thread e.place b))

abbrev pub with_led : List Tally → ℕ × ℕ → ℕ → List Tally
with_led tallies source b = slice_set tallies (cell_of source.0 source.1 b) (more_led (tally_at tallies source.0 source.1 b))

-- it is counted at object b: as taken, and as led or as one of the starting group
abbrev pub taking : Tables → Event → ℕ → Option (ℕ × ℕ) → Tables
taking v e b source = record {
  total = v.total;
  counts = v.counts;
  standings = v.standings;
  groups = cond (is_fed source) v.groups (slice_set v.groups b (more_starting (groups_in v b)));
  tallies = cond (is_fed source) (with_led (with_taken v e b) (source_of source) b) (with_taken v e b);
}

-- it is taken in by its role
abbrev pub entered : Tables → Event → Role → Tables
entered v e (Take o) = let source = (groups_in v o.number).latest in placed (taking v e o.number source) e source
entered v e (Lead o) = placed (leading v e o.number) e None
entered v e Apart = placed v e None

-- the tables w have taken in the event e
abbrev pub Entered : Tables → Event → Tables → Type 0
Entered v e w = (r : Role) × RoleOf e.kind e.subject r × (w ≡ entered v e r)

-- ys has the sums of xs over the places of each thread
pub record Summed (xs ys : List Tally) : Type 0 where
  pub first : (t b : ℕ) → t < 8 → b < 48 → tally_at ys t 0 b ≡ tally_at xs t 0 b
  pub more : (t c b : ℕ) → t < 8 → suc c < 256 → b < 48 → tally_at ys t (suc c) b ≡ both (tally_at xs t (suc c) b) (tally_at ys t c b)

-- it has them of thread t alone, and is as xs at the other threads
pub record SummedAt (xs ys : List Tally) (t : ℕ) : Type 0 where
  pub others : (u c b : ℕ) → (u ≢ t) → u < 8 → c < 256 → b < 48 → tally_at ys u c b ≡ tally_at xs u c b
  pub first : (b : ℕ) → b < 48 → tally_at ys t 0 b ≡ tally_at xs t 0 b
  pub more : (c b : ℕ) → suc c < 256 → b < 48 → tally_at ys t (suc c) b ≡ both (tally_at xs t (suc c) b) (tally_at ys t c b)
