-- The numbers of refusals.
use Rattle.std.specs.Prelude.{ℕ}
use Rattle.judge.specs.declared.refusal.JudgeRefusal.{JudgeRefusal}
use Rattle.judge.specs.declared.refusal.JudgeRefusal.TheVariants.{Void, Rows, Threads, Pairs}

abbrev pub judge_number : JudgeRefusal → ℕ
judge_number Void = 9
judge_number Rows = 20
judge_number Threads = 21
judge_number Pairs = 22
