-- What the codes of a formula say of every run.
use Rattle.std.specs.Prelude.{ℕ, ◌<◌, ◌≤◌, List, length, take, ℤ, Decides, slice_index_or}
use Rattle.codes.specs.Codes.{bit_of}
use Rattle.events.specs.declared.event.Action.{Action}
use Rattle.grammar.specs.Recording.{Formula}
use Rattle.monitor.specs.Meaning.{ran}
use Rattle.formula.specs.declared.formula.Formula.{Formula as Compiled}
use Rattle.formula.specs.Meant.{starts_of, meant}
use Rattle.formula.specs.Table.{Tabled}
use Rattle.formula.specs.Truth.{Holds, subformulas}

-- the code after the first n events of a run
abbrev pub code_after : Compiled → List Action → ℕ → ℕ
code_after t run n = ran (meant t) (take n run)

-- after every event of every run, bit i of the code is the truth of subformula i
abbrev pub Truthful : List ℤ → Compiled → Formula → Type 0
Truthful starts t f =
    (run : List Action) (n : ℕ) → 1 ≤ n → n ≤ length run → (i : ℕ) → i < length (subformulas f)
    → Decides (bit_of (code_after t run n) i) (Holds starts run (slice_index_or (subformulas f) i f) n)

-- a run's code is bad exactly when the formula was false after some event of the run
abbrev pub Faithful : List ℤ → Compiled → Formula → Type 0
Faithful starts t f =
    (run : List Action) (n : ℕ) → n ≤ length run
    → Decides ((meant t).bad (code_after t run n)) ((m : ℕ) × (1 ≤ m) × (m ≤ n) × (Holds starts run f m → ⊥))

-- the two together: the codes say what the formula does, from these starting values on
pub record Watches (starts : List ℤ) (t : Compiled) (f : Formula) : Type 0 where
  pub truths : Truthful starts t f
  pub bad : Faithful starts t f

-- the theorem: so do those of every table that is a formula's
abbrev pub AllWatch : Type 0
AllWatch = (t : Compiled) (f : Formula) → Tabled t.table.nodes t.table.len f → Watches (starts_of t) t f
