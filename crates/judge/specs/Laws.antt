-- What is proved of judgements.
use Rattle.std.specs.Prelude.{◌≡◌, ℕ, ◌≤◌, List, Result}
use Rattle.events.specs.declared.event.Event.{Event}
use Rattle.events.specs.Noting.{Opening, Noted}
use Rattle.monitor.specs.Meaning.{Meaning}
use Rattle.judge.specs.declared.refusal.JudgeRefusal.{JudgeRefusal}
use Rattle.judge.specs.declared.row.SearchRow.{SearchRow}
use Rattle.judge.specs.declared.verdict.Judgement.{Judgement}
use Rattle.judge.specs.Judging.{Judged}

-- Of a noted list of at most 8 threads, one answer is right, and one content of the rows and of the thread list.
abbrev pub JudgedOnce : Type 0
JudgedOnce = (o : Opening) (es : List Event) (m : Meaning) → Noted o es → o.threads ≤ 8
    → (rows : List SearchRow) (list : List ℕ)
    → (r s : Result Judgement JudgeRefusal) (rows_of_r rows_of_s : List SearchRow) (list_of_r list_of_s : List ℕ)
    → Judged o es m rows list r rows_of_r list_of_r → Judged o es m rows list s rows_of_s list_of_s
    → (r ≡ s) × (rows_of_r ≡ rows_of_s) × (list_of_r ≡ list_of_s)
