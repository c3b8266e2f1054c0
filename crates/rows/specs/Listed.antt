-- A list over lent rows, by its parts.
use Rattle.std.specs.Prelude.{ℕ, Bool, cond, List, length, take, Ok, Err, Result, nat_lt}
use Rattle.std.specs.Borrow.{GName}
use Rattle.rows.specs.declared.list.Full.{Full}
use Rattle.rows.specs.declared.list.Rows.{Rows}

-- every row that was lent, listed or not
abbrev pub lent : {R : Type 0} → Rows R → List R
lent s = s.rows.now

abbrev pub count : {R : Type 0} → Rows R → ℕ
count s = s.len

-- the rows that were added, in their order
abbrev pub listed : {R : Type 0} → Rows R → List R
listed s = take s.len s.rows.now

-- which loan the list writes through
abbrev pub loan : {R : Type 0} → Rows R → GName
loan s = s.rows.ghost_name

-- a row is left
abbrev pub roomy : {R : Type 0} → Rows R → Bool
roomy s = nat_lt s.len (length s.rows.now)

-- what adding answers: the new row's place, or that every row is used
abbrev pub pushed_at : {R : Type 0} → Rows R → Result ℕ Full
pushed_at s = cond (roomy s) (Ok s.len) (Err (record {}))
