use Rattle.std.proofs.Common.{◌≡◌, ℕ, ◌^◌, ◌<◌, List, get_or, take, sym, ap, ◌∙◌, arith, get_or-take}
use Rattle.formula.specs.declared.node.Node.{Node}
use lib.Bits.{bit_or}
use Rattle.formula.specs.Meant.{starts_of}
use Rattle.formula.specs.Step.{initial, started}
use Rattle.formula.specs.Table.{node_at, no_node}
use Rattle.codes.proofs.Bitwise.{only_pow}
use Rattle.formula.proofs.Ends.{begun, begun_none, begun_yes, begun_no}
use Rattle.formula.proofs.watch.FormulaMonitor.start.Goals as goal
use Rattle.formula.proofs.watch.FormulaMonitor.start.Goals.{then-begins, else-begins}

pub loop-i-init : goal.loop-i-init
loop-i-init c = begun_none (starts_of c.args.self.now) c.args.self.now.table.nodes

-- the subformula that is looked at
same : (nodes items : List Node) (n i : ℕ) → items ≡ take n nodes → i < n → get_or items i no_node ≡ node_at nodes i
same nodes items n i e h = ap (λ ns. get_or ns i no_node) e ∙ get_or-take n nodes i no_node h

pub loop-i-preserved : goal.loop-i-preserved
loop-i-preserved c =
    let t = c.args.self.now in
    let i = c.loop-i.i in
    let low : i < t.table.len = omega arith in
    let known : initial t.starts (node_at t.table.nodes i) ≡ initial t.starts (get_or c.as_slice-node-items.result.now i no_node) =
    ap (initial t.starts) (sym (same t.table.nodes c.as_slice-node-items.result.now t.table.len i c.as_slice-node-items.ensures.nodes low)) in
    elim c.if-begins.branch [
      | then-begins w ↦ w.code-is
          ∙ ap (bit_or c.loop-i.code) (w.only-code.ensures ∙ only_pow i (omega arith))
          ∙ ap (λ x. bit_or x (2 ^ i)) c.loop-i.invariant
          ∙ begun_yes (starts_of t) t.table.nodes i (omega arith) (known ∙ sym w.if-begins.ensures)
      | else-begins w ↦ w.code-is ∙ c.loop-i.invariant ∙ begun_no (starts_of t) t.table.nodes i (known ∙ sym w.if-begins.ensures)
    ]

pub returns : goal.returns
unfolding started
returns c =
    let t = c.args.self.now in
    let end : c.loop-i.i ≡ t.table.len = omega arith in
    c.loop-i.invariant ∙ ap (begun (starts_of t) t.table.nodes) end
