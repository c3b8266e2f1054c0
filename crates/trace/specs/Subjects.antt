-- How many subjects there are at most.
use Rattle.std.specs.Prelude.{ℕ, cond, nat_lt}

-- no trace has more labels, variables or locks for a kind
abbrev pub most_subjects : ℕ → ℕ
most_subjects k = cond (nat_lt k 3) 32 16
