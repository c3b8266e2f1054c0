-- What the tables of a noted list hold.
use Rattle.std.specs.Prelude.{◌≡◌, ℕ, ◌+◌, ◌*◌, ◌<◌, ◌≤◌, cond, None, Option, unwrap_or, List, length, nat_lt, slice_index, slice_index_or}
use Rattle.events.specs.declared.event.Event.{Event}
use Rattle.events.specs.Noting.{Opening}
use Rattle.order.specs.Trace.{blank, thread_at, place_at, kind_at, subject_at}
use Rattle.order.specs.Sound.{count, Sound}
use Rattle.order.specs.Maps.{Source}
use Rattle.follow.specs.declared.tables.Groups.{Groups}
use Rattle.follow.specs.declared.tables.Standing.{Standing}
use Rattle.follow.specs.declared.tables.Tables.{Tables}
use Rattle.follow.specs.declared.tables.Tally.{Tally}
use Rattle.follow.specs.Balance.{Led, Taken, Starting, ThreadsBelow}
use Rattle.follow.specs.Roles.{Takes}

-- where thread t's event of place p stands
abbrev pub slot_of : ℕ → ℕ → ℕ
slot_of t p = t * 256 + p

-- where object b's tally for thread t's first c events stands
abbrev pub cell_of : ℕ → ℕ → ℕ → ℕ
cell_of t c b = slot_of t c * 48 + b

-- what stands at thread t's place p
abbrev pub standing_in : Tables → ℕ → ℕ → Standing
standing_in tables t p = slice_index_or tables.standings (slot_of t p) (record { event = blank; source = None })

-- object b's groups
abbrev pub groups_in : Tables → ℕ → Groups
groups_in tables b = slice_index_or tables.groups b (record { latest = None; starting = 0 })

-- its tally for thread t's first c events
abbrev pub tally_at : List Tally → ℕ → ℕ → ℕ → Tally
tally_at tallies t c b = slice_index_or tallies (cell_of t c b) (record { led = 0; taken = 0 })

abbrev pub tally_in : Tables → ℕ → ℕ → ℕ → Tally
tally_in tables t c b = tally_at tables.tallies t c b

-- thread and place of the event that feeds one, or 255 and 0 where none does
abbrev pub source_of : Option (ℕ × ℕ) → ℕ × ℕ
source_of source = unwrap_or source (255, 0)

-- the source that the tables have for thread t's event of place p
abbrev pub source_in : Tables → ℕ → ℕ → ℕ × ℕ
source_in tables t p = cond (nat_lt t 8) (source_of (standing_in tables t p).source) (255, 0)

pub record MadeOf (es : List Event) (tables : Tables) : Type 0 where
  pub sound : Sound es
  pub few : ThreadsBelow es 8
  -- its writes and acquires are of objects that have numbers
  pub variables : (i : ℕ) → i < length es → kind_at es i ≡ 2 → subject_at es i < 32
  pub locks : (i : ℕ) → i < length es → kind_at es i ≡ 3 → subject_at es i < 16
  pub total : tables.total ≡ length es
  pub counts : (t : ℕ) → t < 8 → slice_index tables.counts t ≡ count es t (length es)
  -- each event at its thread and place, and what feeds it
  pub events : (i : ℕ) → i < length es → (standing_in tables (thread_at es i) (place_at es i)).event ≡ slice_index_or es i blank
  pub sources : (i : ℕ) → i < length es
      → Source es i (source_of (standing_in tables (thread_at es i) (place_at es i)).source).0 (source_of (standing_in tables (thread_at es i) (place_at es i)).source).1
  -- of object b, whose reads or releases are the events of kind k and subject s: its starting group,
  pub starts : (k s b : ℕ) → Takes k s b → Starting es k s (groups_in tables b).starting
  -- what the first c events of thread t feed, and what is among them
  pub led : (k s b : ℕ) → Takes k s b → (t c : ℕ) → t < 8 → c < 256 → Led es k s t c (tally_in tables t c b).led
  pub taken : (k s b : ℕ) → Takes k s b → (t c : ℕ) → t < 8 → c < 256 → Taken es k s t c (tally_in tables t c b).taken

-- a trace's opening: at most 8 threads and 32 variables
abbrev pub Small : Opening → Type 0
Small o = (o.threads ≤ 8) × (length o.starts ≤ 32)
