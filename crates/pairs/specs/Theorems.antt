-- What is proved of the pairs of every noted list and every monitor.
use Rattle.std.specs.Prelude.{◌≡◌, ℕ, ◌<◌, Bool, List, length, Some, None, Decides, ◌≢◌, slice_index, slice_index_or}
use Rattle.events.specs.declared.event.Event.{Event}
use Rattle.events.specs.Noting.{Opening, count_of}
use Rattle.order.specs.Trace.{blank, thread_at}
use Rattle.order.specs.Runs.{thread_list}
use Rattle.order.specs.Cuts.{Cut, MayFollow, Reach}
use Rattle.order.specs.Reached.{cut_of}
use Rattle.explore.specs.System.{System}
use Rattle.explore.specs.Rows.{Row}
use Rattle.explore.specs.Listing.{Listing, Holds}
use Rattle.explore.specs.Levels.{Levelled, Tells}
use Rattle.monitor.specs.Meaning.{Meaning, ran}
use Rattle.pairs.specs.declared.pair.Pair.{Pair}
use Rattle.pairs.specs.Pairs.{pairs, moved, full, same, size_of}
use Rattle.pairs.specs.Agreement.{Agree}
use Rattle.pairs.specs.Judged.{Recorded, actions, LeadsTo, Paths, Judges, Told}

-- The pairs are in levels, a pair's level being how many events are in its cut,
abbrev pub PairsLevelled : Type 0
PairsLevelled = (o : Opening) (es : List Event) (n : ℕ) (m : Meaning) → Recorded o es n
    → (v : Levelled (pairs es n m) (length es)) × ((x : Pair) → v.level x ≡ size_of x.cut)

-- and a test tells whether two are equal.
abbrev pub PairsTold : Type 0
PairsTold = Tells same

-- Thread t leads on by its event that may follow the cut, and where there is none, nowhere.
abbrev pub PairsStep : Type 0
PairsStep = (o : Opening) (es : List Event) (n : ℕ) (m : Meaning) → Recorded o es n → (x : Pair) (t : ℕ)
    → ((i : ℕ) → MayFollow es (cut_of x.cut) i → thread_at es i ≡ t → (pairs es n m).next x t ≡ Some (moved m x t (slice_index_or es i blank)))
    × (((i : ℕ) → MayFollow es (cut_of x.cut) i → thread_at es i ≢ t) → (pairs es n m).next x t ≡ None)

-- What a path of pairs leads to, a run of events does, with its cut and its code; and the other way about.
abbrev pub PairsReach : Type 0
PairsReach = (o : Opening) (es : List Event) (n : ℕ) (m : Meaning) → Recorded o es n
    → ((p : List ℕ) (x : Pair) → LeadsTo es n m p x
    → (r : List ℕ) × Reach es r (cut_of x.cut) × (thread_list es r ≡ p) × (x.code ≡ ran m (actions es r)) × (length x.cut ≡ 8))
    × ((r : List ℕ) (c : Cut) → Reach es r c
    → (x : Pair) × LeadsTo es n m (thread_list es r) x × (cut_of x.cut ≡ c) × (x.code ≡ ran m (actions es r)))

-- The paths to a full cut are the consistent runs.
abbrev pub PairsPaths : Type 0
PairsPaths = (o : Opening) (es : List Event) (n : ℕ) (m : Meaning) → Recorded o es n → Paths es n m

-- A pair that can be reached is full just if its counts are each thread's number of events,
abbrev pub FullByCounts : Type 0
FullByCounts = (o : Opening) (es : List Event) (n : ℕ) (m : Meaning) → Recorded o es n
    → (counts : List ℕ) → length counts ≡ 8 → ((t : ℕ) → t < 8 → slice_index counts t ≡ count_of t es)
    → (p : List ℕ) (x : Pair) → LeadsTo es n m p x → Decides (full es x.cut) (x.cut ≡ counts)

-- or just if they add up to the number of all events.
abbrev pub FullBySum : Type 0
FullBySum = (o : Opening) (es : List Event) (n : ℕ) (m : Meaning) → Recorded o es n
    → (p : List ℕ) (x : Pair) → LeadsTo es n m p x → Decides (full es x.cut) (size_of x.cut ≡ length es)

-- Where S agrees with T on all that T can reach, what a room holds of S it holds of T.
abbrev pub SystemsAgree : Type 0 → Type 0
SystemsAgree N = (S T : System N) → Agree S T → (c : ℕ) (rows : List (Row N)) (complete : Bool) → Holds S c rows complete → Holds T c rows complete

-- What a listing of the pairs says of the consistent runs,
abbrev pub PairsJudged : Type 0
PairsJudged = (o : Opening) (es : List Event) (n : ℕ) (m : Meaning) → Recorded o es n
    → (rows : List (Row Pair)) → Listing (pairs es n m) rows → Judges es m rows

-- and what rows in a room for c rows say.
abbrev pub RoomJudged : Type 0
RoomJudged = (o : Opening) (es : List Event) (n : ℕ) (m : Meaning) → Recorded o es n
    → (c : ℕ) (rows : List (Row Pair)) (complete : Bool) → Holds (pairs es n m) c rows complete → Told es m rows complete
