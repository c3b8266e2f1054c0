-- What judging answers, and what it leaves in the rows and the thread list that it was lent.
use Rattle.std.specs.Prelude.{◌≡◌, ℕ, ◌≤◌, Bool, true, false, List, [], ◌∷◌, ◌++◌, length, take, drop, Some, None, Ok, Err, Option, Result, nat_lt}
use Rattle.events.specs.declared.event.Event.{Event}
use Rattle.events.specs.First.{first_fit}
use Rattle.events.specs.Noting.{Opening, is_void}
use Rattle.explore.specs.Rows.{Row}
use Rattle.explore.specs.Listing.{Holds}
use Rattle.explore.specs.Paths.{path}
use Rattle.monitor.specs.Meaning.{Meaning}
use Rattle.pairs.specs.declared.pair.Pair.{Pair}
use Rattle.pairs.specs.Pairs.{pairs}
use Rattle.pairs.specs.Judged.{NoHit, FirstHit}
use Rattle.judge.specs.declared.refusal.JudgeRefusal.{JudgeRefusal}
use Rattle.judge.specs.declared.refusal.JudgeRefusal.TheVariants as refusal
use Rattle.judge.specs.declared.row.SearchRow.{SearchRow}
use Rattle.judge.specs.declared.verdict.Judgement.{Judgement}
use Rattle.judge.specs.declared.verdict.Verdict.{Verdict}
use Rattle.judge.specs.declared.verdict.Verdict.TheVariants as verdict
use Rattle.judge.specs.Viewed.{viewed}

-- why nothing is judged, in the order of the numbers
abbrev pub judge_tests : Opening → List Event → ℕ → ℕ → List (Bool × JudgeRefusal)
judge_tests o es row_count list_length =
    (is_void o, refusal.Void) ∷ (nat_lt 65536 row_count, refusal.Rows) ∷ (nat_lt list_length (length es), refusal.Threads) ∷ []

-- The first n rows are all pairs that can be reached, and the rows beyond are as they were.
pub record Listed (o : Opening) (es : List Event) (m : Meaning) (before after : List SearchRow) (n : ℕ) : Type 0 where
  pub within : n ≤ length before
  pub holds : Holds (pairs es o.threads m) (length before) (viewed (take n after)) true
  pub many : length (take n after) ≡ n
  pub beyond : drop n after ≡ drop n before

-- The verdict on n rows of pairs, and the thread list before and after: none is a hit, and the list stays; or there is a first hit, and the
-- threads that led to it stand at the front of the list.
abbrev pub Answered : List Event → Meaning → List (Row Pair) → ℕ → List ℕ → Verdict → List ℕ → Type 0
Answered es m rows n before verdict.None after = NoHit es m rows n × (after ≡ before)
Answered es m rows n before verdict.Found after =
    (j : ℕ) × (row : Row Pair) × FirstHit es m rows j row × (after ≡ path rows j ++ drop (length es) before)

-- Where there is no reason to refuse: all pairs are listed, and the verdict is on them; or they are more than the rows, which hold the first of them.
abbrev pub Granted : Opening → List Event → Meaning → List SearchRow → List ℕ → Result Judgement JudgeRefusal → List SearchRow → List ℕ → Type 0
Granted o es m rows list (Ok j) rows' list' =
    Listed o es m rows rows' j.pairs × Answered es m (viewed (take j.pairs rows')) j.pairs list j.verdict list'
Granted o es m rows list (Err refusal.Pairs) rows' list' = Holds (pairs es o.threads m) (length rows) (viewed rows') false × (list' ≡ list)
Granted o es m rows list (Err refusal.Void) rows' list' = ⊥
Granted o es m rows list (Err refusal.Rows) rows' list' = ⊥
Granted o es m rows list (Err refusal.Threads) rows' list' = ⊥

-- where there is a reason to refuse, that is the answer, and all stays as it was
abbrev pub JudgedFor : Option JudgeRefusal → Opening → List Event → Meaning → List SearchRow → List ℕ → Result Judgement JudgeRefusal → List SearchRow → List ℕ → Type 0
JudgedFor (Some why) o es m rows list r rows' list' = (r ≡ Err why) × (rows' ≡ rows) × (list' ≡ list)
JudgedFor None o es m rows list r rows' list' = Granted o es m rows list r rows' list'

-- The trace with this opening and these noted events is judged under a monitor that means m: of the rows and the thread list that were lent,
-- the answer r and what they hold afterwards.
abbrev pub Judged : Opening → List Event → Meaning → List SearchRow → List ℕ → Result Judgement JudgeRefusal → List SearchRow → List ℕ → Type 0
Judged o es m rows list r rows' list' = JudgedFor (first_fit (judge_tests o es (length rows) (length list))) o es m rows list r rows' list'
