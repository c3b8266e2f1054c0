-- What a C program is told, by cases of what the predictor says.
use Rattle.std.specs.Prelude.{ℕ, Ok, Err, Result}
use Rattle.judge.specs.declared.verdict.Verdict.{Verdict}
use Rattle.judge.specs.declared.verdict.Verdict.TheVariants as verdict
use Rattle.predictor.specs.Faults.{fault_number, fault_place}
use Rattle.predictor.specs.declared.fault.Fault.{Fault}
use Rattle.predictor.specs.declared.fault.Stop.{Stop}
use Rattle.predictor.specs.declared.fault.Stop.TheVariants.{Faulty, Memory}
use Rattle.predictor.specs.declared.predicting.Prediction.{Prediction}
use Rattle.linked.specs.declared.answer.Answer.{Answer}
use Rattle.linked.specs.declared.answer.Outcome.{Outcome}
use Rattle.linked.specs.declared.answer.Outcome.TheVariants as outcome

-- none where no order of the events breaks the rule, found where some order does
abbrev pub outcome_of : Verdict → Outcome
outcome_of verdict.None = outcome.None
outcome_of verdict.Found = outcome.Found

-- the outcomes' numbers
abbrev pub outcome_number : Outcome → ℕ
outcome_number outcome.None = 0
outcome_number outcome.Found = 1
outcome_number outcome.Fault = 2
outcome_number outcome.Memory = 3

-- the outcome of a verdict, with its pairs and events
abbrev pub prediction_answer : Prediction → Answer
prediction_answer p =
    record { outcome = outcome_number (outcome_of p.verdict); number = 0; line = 0; column = 0; pairs = p.pairs; events = p.events }

-- 2: a fault, with its number and place
abbrev pub fault_answer : Fault → Answer
fault_answer fault =
    record { outcome = 2; number = fault_number fault; line = (fault_place fault).line; column = (fault_place fault).column; pairs = 0; events = 0 }

-- 3: memory ran out
abbrev pub stop_answer : Stop → Answer
stop_answer (Faulty fault) = fault_answer fault
stop_answer Memory = record { outcome = 3; number = 0; line = 0; column = 0; pairs = 0; events = 0 }

abbrev pub answer_of : Result Prediction Stop → Answer
answer_of (Ok p) = prediction_answer p
answer_of (Err stop) = stop_answer stop
