use Rattle.std.proofs.Common.{◌≡◌, ℕ, ◌<◌, ◌≤◌, length, drop, replicate}
use Rattle.formula.specs.declared.node.Node.TheVariants.{Mark}
use Rattle.formula.proofs.Backward.{rest, Ahead}
use Rattle.formula.proofs.Spelt.{Good}
use Rattle.formula.proofs.compile.compile.Given as goal

-- from each word from i on a formula is spelt, and the table has it; beyond the table nothing is written
abbrev pub invariant-loop-i : goal.invariant-loop-i
invariant-loop-i l = record {
  ahead : Ahead l.words l.i-iterator;
  rows : length l.nodes ≡ 60;
  ends : length l.ends ≡ length l.words;
  good : (k : ℕ) → length (rest l.i-iterator) ≤ k → k < length l.words → Good l.words (length l.words) l.nodes l.ends k;
  blank : drop (length l.words) l.nodes ≡ drop (length l.words) (replicate 60 (Mark 0));
}
