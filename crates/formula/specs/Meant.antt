-- What a formula means as a monitor. That bad codes stay bad is a part of a meaning, so its proof stands here.
use Rattle.std.specs.Prelude.{◌≡◌, ℕ, ◌≤◌, true, false, List, ℤ, nat_lt}
use Rattle.std.proofs.Common.{◌∙◌, arith}
use Rattle.std.proofs.lemmas.Bool.{le-ltb}
use Rattle.codes.specs.Codes.{bit_of}
use Rattle.codes.proofs.Codes.{bit_code}
use Rattle.events.specs.declared.event.Action.{Action}
use Rattle.monitor.specs.Meaning.{Meaning}
use Rattle.formula.specs.declared.node.Node.{Node}
use Rattle.formula.specs.declared.formula.Formula.{Formula as Compiled}
use Rattle.formula.specs.Step.{eval, bits, started, stepped}

pub bad_stays : (nodes : List Node) (n c : ℕ) (a : Action) → n ≤ 60 → bit_of c 61 ≡ true → bit_of (stepped nodes n c a) 61 ≡ true
unfolding stepped bits
bad_stays nodes n c a few b =
    let above : nat_lt 61 n ≡ false = le-ltb 61 n (omega arith) in
    bit_code 62 (bits n c (eval n nodes (bit_of c) a)) 61 (omega arith) ∙ rw (above, b)

-- the starting values of the variables
abbrev pub starts_of : Compiled → List ℤ
starts_of t = t.starts

-- bit 61 marks the bad codes
abbrev pub meant : Compiled → Meaning
meant t = record {
  start = started (starts_of t) t.table.nodes t.table.len;
  step = stepped t.table.nodes t.table.len;
  bad = λ c. bit_of c 61;
  stays = λ c a h. bad_stays t.table.nodes t.table.len c a t.few h;
}
