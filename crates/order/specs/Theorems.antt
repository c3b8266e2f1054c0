-- What is proved of every noted list es, whatever o its trace was opened with.
use Rattle.std.specs.Prelude.{◌≡◌, ℕ, ◌<◌, ◌≤◌, ◌⊎◌, List, length, ℤ, None, Decides}
use Rattle.std.specs.List.{range_with_len}
use Rattle.events.specs.declared.event.Action.{Action}
use Rattle.events.specs.declared.event.Event.{Event}
use Rattle.events.specs.Noting.{Opening, opened, refused, Noted}
use Rattle.order.specs.declared.row.Row.{Row}
use Rattle.order.specs.Trace.{thread_at, place_at}
use Rattle.order.specs.Before.{Feeds, Before, UpTo}
use Rattle.order.specs.Groups.{Group, Member}
use Rattle.order.specs.Runs.{Ordering, Consistent, thread_list, RunOf, reordered, RunAmong, SameFeeds, KeepsLast}
use Rattle.order.specs.Cuts.{Cut, Full, Open, MayFollow, Accepted, Reach}
use Rattle.order.specs.Clocks.{Clock, Counts, clock_at, Kept}
use Rattle.order.specs.Tests.{feeds, before, member, is_open, may_follow, accepts, consistent}
use Rattle.order.specs.Sound.{Sound, Within}
use Rattle.order.specs.Noted.{Allowed, noted}
use Rattle.order.specs.Maps.{Source, MapOf, rows}
use Rattle.order.specs.Waiting.{HasNext, Follows, BySource, Waits, Moves}

-- A list is noted exactly when it is sound and within what the opening allows,
abbrev pub NotedSound : Type 0
NotedSound = (o : Opening) (es : List Event) → (Noted o es → Sound es × Within o es) × (Sound es → Within o es → Noted o es)

-- an action is noted exactly when it is allowed,
abbrev pub NotedAllowed : Type 0
NotedAllowed = (o : Opening) (es : List Event) (a : Action) → (refused o es a ≡ None → Allowed o es a) × (Allowed o es a → refused o es a ≡ None)

-- a test decides which lists are noted,
abbrev pub NotedDecided : Type 0
NotedDecided = (o : Opening) (es : List Event) → Decides (noted o es) (Noted o es)

-- and an opening has at most 8 threads, 32 variables and 1,024 event rows, also where it is refused.
abbrev pub OpenedWithin : Type 0
OpenedWithin = (threads : ℕ) (starts : List ℤ) (room : ℕ)
    → ((opened threads starts room).threads ≤ 8) × (length (opened threads starts room).starts ≤ 32) × ((opened threads starts room).room ≤ 1024)

-- A thread list is accepted step by step exactly when it lists a consistent run,
abbrev pub AcceptedRuns : Type 0
AcceptedRuns = (o : Opening) (es : List Event) → Noted o es → (ts : List ℕ) → (Accepted es ts → RunOf es ts) × (RunOf es ts → Accepted es ts)

-- a run is consistent exactly when its events lead step by step to the full cut,
abbrev pub PathRuns : Type 0
PathRuns = (o : Opening) (es : List Event) → Noted o es → (r : List ℕ)
    → (Consistent es r → (c : Cut) × Reach es r c × Full es c) × ((c : Cut) → Reach es r c → Full es c → Consistent es r)

-- a thread list lists at most one,
abbrev pub OneRun : Type 0
OneRun = (o : Opening) (es : List Event) → Noted o es → (r s : List ℕ) → Consistent es r → Consistent es s
    → thread_list es r ≡ thread_list es s → r ≡ s

-- and the order in which the events were noted is one.
abbrev pub NotedRun : Type 0
NotedRun = (o : Opening) (es : List Event) → Noted o es
    → Consistent es (range_with_len 0 (length es)) × (reordered es (range_with_len 0 (length es)) ≡ es)

-- The consistent runs that have no event of a lock behind an acquire of it that has no release are real:
-- they are the orderings that the same trace could have noted, with the same events feeding the same events.
abbrev pub RealRuns : Type 0
RealRuns = (o : Opening) (es : List Event) → Noted o es → (r : List ℕ)
    → (Consistent es r → KeepsLast es r → Noted o (reordered es r) × SameFeeds es r)
    × (Ordering es r → Noted o (reordered es r) → SameFeeds es r → Consistent es r × KeepsLast es r)

-- The tests decide what they are named after.
pub record Decided (es : List Event) : Type 0 where
  pub feeding : (e f : ℕ) → Decides (feeds es e f) (Feeds es e f)
  pub order : (e f : ℕ) → Decides (before es e f) (Before es e f)
  pub groups : (g : Group) (i : ℕ) → Decides (member es g i) (Member es g i)
  pub opens : (c : Cut) (g : Group) → Decides (is_open es c g) (Open es c g)
  pub follows : (c : Cut) (i : ℕ) → Decides (may_follow es c i) (MayFollow es c i)
  pub accepted : (ts : List ℕ) → Decides (accepts es ts) (Accepted es ts)
  pub runs : (r : List ℕ) → Decides (consistent es r) (Consistent es r)

abbrev pub TestsDecide : Type 0
TestsDecide = (o : Opening) (es : List Event) → Noted o es → Decided es

-- The clocks of one scan are the counts,
abbrev pub ScanCounts : Type 0
ScanCounts = (o : Opening) (es : List Event) → Noted o es → (i t : ℕ) → i < length es → Counts es i t (clock_at es i t)

-- an event is f or before f exactly when its place is within f's count for its thread,
abbrev pub WithinClock : Type 0
WithinClock = (o : Opening) (es : List Event) → Noted o es → (e f c : ℕ) → e < length es → f < length es → Counts es f (thread_at es e) c
    → (UpTo es e f → place_at es e ≤ c) × (place_at es e ≤ c → UpTo es e f)

-- and clocks that tables keep by the rule are the counts.
abbrev pub KeptCounts : Type 0
KeptCounts = (o : Opening) (es : List Event) → Noted o es → (v : ℕ → ℕ → Clock) (c : ℕ → Clock) → Kept es o.threads v c
    → (k j : ℕ) → k < length es → j < 8 → Counts es k j (c k j)

-- The computed rows are a map, and the only one; there is one row to an event.
abbrev pub OneMap : Type 0
OneMap = (o : Opening) (es : List Event) → Noted o es
    → MapOf es (rows es o.threads) × (length (rows es o.threads) ≡ length es) × ((m : List Row) → MapOf es m → m ≡ rows es o.threads)

-- Two noted lists have equal maps exactly when one, in the order noted, is a consistent run of the other.
abbrev pub EqualMaps : Type 0
EqualMaps = (o p : Opening) (es fs : List Event) → Noted o es → Noted p fs → (m n : List Row) → MapOf es m → MapOf fs n
    → (m ≡ n → RunAmong es fs) × (RunAmong es fs → m ≡ n)

-- At a cut that a path reaches: what decides whether a thread's next event may follow,
abbrev pub FollowRules : Type 0
FollowRules = (o : Opening) (es : List Event) → Noted o es → (r : List ℕ) (c : Cut) → Reach es r c
    → (t i : ℕ) → HasNext es c t i → Follows es c t i

-- what an event's source says,
abbrev pub SourceRules : Type 0
SourceRules = (o : Opening) (es : List Event) → Noted o es → o.threads ≤ 255
    → (c : Cut) (i t p : ℕ) → Source es i t p → BySource es c i t p

-- and how many reads or releases wait when an event has followed.
abbrev pub WaitsMove : Type 0
WaitsMove = (o : Opening) (es : List Event) → Noted o es → (r : List ℕ) (c : Cut) → Reach es r c → (i : ℕ) → MayFollow es c i
    → (k s v : ℕ) → (k ≡ 1) ⊎ (k ≡ 4) → Waits es c k s v → Moves es c i k s v
