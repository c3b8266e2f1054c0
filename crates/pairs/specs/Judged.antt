-- What the pairs say of the consistent runs.
use Rattle.std.specs.Prelude.{◌≡◌, ℕ, ◌<◌, ◌≤◌, Bool, true, List, map, length, ◌≢◌, slice_index, slice_index_or}
use Rattle.events.specs.declared.event.Action.{Action}
use Rattle.events.specs.declared.event.Event.{Event}
use Rattle.events.specs.Events.{action_of}
use Rattle.events.specs.Noting.{Opening, Noted}
use Rattle.order.specs.Runs.{Consistent, thread_list, reordered}
use Rattle.order.specs.Cuts.{Accepted}
use Rattle.explore.specs.System.{Goes}
use Rattle.explore.specs.Rows.{Row, At}
use Rattle.explore.specs.Paths.{path}
use Rattle.monitor.specs.Meaning.{Meaning, ran, Violates}
use Rattle.pairs.specs.declared.pair.Pair.{Pair}
use Rattle.pairs.specs.Pairs.{pairs, full, hit}

-- es is the noted list of a trace of n threads, 8 at most
pub record Recorded (o : Opening) (es : List Event) (n : ℕ) : Type 0 where
  pub noted : Noted o es
  pub few : o.threads ≤ 8
  pub threads : n ≡ o.threads

-- what the threads do in the order of a run
abbrev pub actions : List Event → List ℕ → List Action
actions es r = map action_of (reordered es r)

-- the labels p lead to x
abbrev pub LeadsTo : List Event → ℕ → Meaning → List ℕ → Pair → Type 0
LeadsTo es n m p x = Goes (pairs es n m) (pairs es n m).first p x

-- and there all events are in the cut
abbrev pub Comes : List Event → ℕ → Meaning → List ℕ → Pair → Type 0
Comes es n m p x = LeadsTo es n m p x × (full es x.cut ≡ true)

-- The paths to a full cut are the consistent runs, and the code there is the code after the run.
pub record Paths (es : List Event) (n : ℕ) (m : Meaning) : Type 0 where
  pub accepted : (p : List ℕ) (x : Pair) → Comes es n m p x → Accepted es p
  pub accepts : (p : List ℕ) → Accepted es p → (x : Pair) × Comes es n m p x
  pub is_run : (p : List ℕ) (x : Pair) → Comes es n m p x
      → (r : List ℕ) × Consistent es r × (thread_list es r ≡ p) × (x.code ≡ ran m (actions es r))
  pub has_run : (r : List ℕ) → Consistent es r
      → (x : Pair) × Comes es n m (thread_list es r) x × (x.code ≡ ran m (actions es r))

-- a consistent run that violates m
abbrev pub Breaks : List Event → Meaning → List ℕ → Type 0
Breaks es m r = Consistent es r × Violates m (actions es r)

-- q has the higher number at the first place where p and q differ
pub record Higher (p q : List ℕ) : Type 0 where
  pub place : ℕ
  pub left : place < length p
  pub right : place < length q
  pub alike : (k : ℕ) → k < place → slice_index p k ≡ slice_index q k
  pub higher : slice_index_or p place 0 < slice_index q place

-- none of the first k rows is a hit
abbrev pub NoHit : List Event → Meaning → List (Row Pair) → ℕ → Type 0
NoHit es m rows k = (j : ℕ) (s : Row Pair) → j < k → At rows j s → hit es m s.node ≢ true

-- row j, which is r, is the first hit
pub record FirstHit (es : List Event) (m : Meaning) (rows : List (Row Pair)) (j : ℕ) (r : Row Pair) : Type 0 where
  pub at : At rows j r
  pub hits : hit es m r.node ≡ true
  pub ahead : NoHit es m rows j

-- The run that row j's path lists violates, its code is that of the row, and every other run that violates has the higher thread number at
-- the first place where the two differ.
pub record Least (es : List Event) (m : Meaning) (rows : List (Row Pair)) (j : ℕ) (r : Row Pair) : Type 0 where
  pub run : List ℕ
  pub lists : thread_list es run ≡ path rows j
  pub breaks : Breaks es m run
  pub code : r.node.code ≡ ran m (actions es run)
  pub others : (s : List ℕ) → Breaks es m s → (s ≢ run) → Higher (thread_list es run) (thread_list es s)

-- Without a hit no consistent run violates, and where none does there is no hit; the first hit is the least run that violates.
pub record Judges (es : List Event) (m : Meaning) (rows : List (Row Pair)) : Type 0 where
  pub never : NoHit es m rows (length rows) → (r : List ℕ) → Breaks es m r → ⊥
  pub no_hit : ((r : List ℕ) → Breaks es m r → ⊥) → NoHit es m rows (length rows)
  pub found : (j : ℕ) (r : Row Pair) → FirstHit es m rows j r → Least es m rows j r

-- Rows that a room holds: where they are complete, all of that; where they are not, a hit among them stands all the same.
pub record Told (es : List Event) (m : Meaning) (rows : List (Row Pair)) (complete : Bool) : Type 0 where
  pub whole : complete ≡ true → Judges es m rows
  pub found : (j : ℕ) (r : Row Pair) → FirstHit es m rows j r → Least es m rows j r
