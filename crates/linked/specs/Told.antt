-- What a C program is told of a recording.
use Rattle.std.specs.Prelude.{◌≡◌, ℕ, min, List, length, Result}
use Rattle.judge.specs.declared.row.SearchRow.{SearchRow}
use Rattle.predictor.specs.declared.fault.Stop.{Stop}
use Rattle.predictor.specs.declared.predicting.Prediction.{Prediction}
use Rattle.predictor.specs.Predicted.{Predicted, TellsRule}
use Rattle.linked.specs.declared.answer.Answer.{Answer}
use Rattle.linked.specs.Answers.{answer_of}

-- The predictor says p of the text, over 1,024 event rows and so many rows of pairs, in the words of its own call and in those of the rule.
-- Where there is no memory for the rows of pairs, that is said as the predictor says it of its own.
pub record Says (t : List ℕ) (rows : ℕ) (list : List ℕ) (p : Result Prediction Stop) (list' : List ℕ) : Type 0 where
  pub lent : List SearchRow
  pub many : length lent ≡ rows
  pub left : List SearchRow
  pub predicted : Predicted t 1024 lent list p left list'
  pub rule : TellsRule t 1024 p list'

-- What the predictor says, in numbers. Of more than 65,536 rows asked for, 65,537 are lent, which are refused as any number above is.
abbrev pub Told : List ℕ → ℕ → List ℕ → Answer → List ℕ → Type 0
Told t rows list answer list' = (p : Result Prediction Stop) × Says t (min rows 65537) list p list' × (answer ≡ answer_of p)
