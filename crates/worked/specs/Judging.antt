-- The pairs of a trace under a rule, and what they say of it.
use Rattle.std.specs.Prelude.{ℕ, suc, ◌≤◌, Bool, true, false, cond, ◌&&◌, List, [], ◌∷◌, length, ℤ, Some, None, Option, ◌==◌, nat_le}
use Rattle.codes.specs.Codes.{bit_of}
use Rattle.events.specs.declared.event.Event.{Event}
use Rattle.order.specs.Reached.{same_counts}
use Rattle.explore.specs.Rows.{Row}
use Rattle.explore.specs.Paths.{path}
use Rattle.explore.specs.Rounds.{computed}
use Rattle.monitor.specs.Meaning.{Meaning}
use Rattle.formula.specs.declared.node.Node.{Node}
use Rattle.formula.specs.Step.{started, stepped}
use Rattle.formula.specs.Meant.{bad_stays}
use Rattle.pairs.specs.declared.pair.Pair.{Pair}
use Rattle.pairs.specs.Pairs.{pairs, hit, same}
use Rattle.judge.specs.declared.refusal.JudgeRefusal.TheVariants.{Pairs}
use Rattle.judge.specs.Numbers.{judge_number}

-- what a table of n subformulas means as a monitor, where the variables have these starting values; bit 61 marks the bad codes
abbrev pub watching : List ℤ → List Node → (n : ℕ) → n ≤ 60 → Meaning
watching starts nodes n few = record {
  start = started starts nodes n;
  step = stepped nodes n;
  bad = λ c. bit_of c 61;
  stays = λ c a h. bad_stays nodes n c a few h;
}

-- all pairs of the events of n threads under m, in the order in which they are found
abbrev pub listing : List Event → ℕ → Meaning → List (Row Pair)
listing es n m = computed (pairs es n m) same (length es)

-- the number of the first row that is a hit, where the numbers begin at j
abbrev first_hit : List Event → Meaning → List (Row Pair) → ℕ → Option ℕ
first_hit es m [] j = None
first_hit es m (row ∷ rows) j = cond (hit es m row.node) (Some j) (first_hit es m rows (suc j))

-- there is no such row
abbrev without : Option ℕ → Bool
without None = true
without (Some j) = false

-- there is one, and these threads led to it
abbrev led_by : List (Row Pair) → Option ℕ → List ℕ → Bool
led_by rows None threads = false
led_by rows (Some j) threads = same_counts (path rows j) threads

-- the verdict is none, and there are so many pairs
abbrev pub none : List Event → ℕ → Meaning → ℕ → Bool
none es n m many =
    let rows : List (Row Pair) = listing es n m in
    (length rows == many) && without (first_hit es m rows 0)

-- the verdict is found, there are so many pairs, and these are the threads of the least run that violates
abbrev pub found : List Event → ℕ → Meaning → ℕ → List ℕ → Bool
found es n m many threads =
    let rows : List (Row Pair) = listing es n m in
    (length rows == many) && led_by rows (first_hit es m rows 0) threads

-- the number with which a room for so many rows is refused, or 0 where it holds all pairs
abbrev pub room_refusal : List Event → ℕ → Meaning → ℕ → ℕ
room_refusal es n m room = cond (nat_le (length (listing es n m)) room) 0 (judge_number Pairs)
