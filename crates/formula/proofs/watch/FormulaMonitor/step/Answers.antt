use Rattle.std.proofs.Common.{ℕ, ◌<◌, List, get_or, get_or-take, length-take, length, take, ◌≡◌, ◌^◌, true, false, not, ◌||◌, sym, ap, ◌∙◌, arith}
use lib.Bits.{bit_or}
use Rattle.std.proofs.lemmas.Bool.{or_left, or_right, or_from, not_from_true, not_from_false}
use Rattle.codes.specs.Codes.{bit_of, code_of}
use Rattle.formula.specs.Step.{eval}
use Rattle.codes.proofs.Bitwise.{only_pow}
use Rattle.formula.proofs.Evals.{from, from_none, turn_yes, turn_no}
use Rattle.formula.specs.declared.node.Node.{Node}
use Rattle.formula.specs.Table.{node_at, no_node}
use Rattle.formula.proofs.Backward.{rest, begun, Taken, taken}
use Rattle.formula.proofs.Ends.{whole_yes, whole_no, settled}
use Rattle.formula.proofs.watch.FormulaMonitor.step.Goals as goal
use Rattle.formula.proofs.watch.FormulaMonitor.step.Goals.{then-bad-via-then-bad, then-bad-via-else-bad+then-not-has}

pub loop-i-init : goal.loop-i-init
loop-i-init c =
    let t = c.args.self.now in
    let whole : rest c.into_iter-i-iterator.result ≡ c.as_slice.result.now = cc (c.into_iter-i-iterator.ensures.into_iter_gives, c.rev-i-items.ensures.source, c.enumerate.ensures.source, c.iter.ensures.rest) in
    let n : length (rest c.into_iter-i-iterator.result) ≡ t.table.len = ap length whole ∙ c.as_slice.ensures.len in
    record {
      ahead = begun (take t.table.len t.table.nodes) _ (whole ∙ c.as_slice.ensures.nodes) (cc (c.into_iter-i-iterator.ensures.into_iter_gives, c.rev-i-items.ensures.source, c.enumerate.ensures.count));
      truths = from_none _ _ ∙ ap (λ i. code_of 62 (from t.table.len (eval t.table.len t.table.nodes (bit_of c.args.code) c.args.action) i)) (sym n);
    }

-- item i of the first n nodes
item : (nodes : List Node) (n i : ℕ) (node : Node) → i < length (take n nodes) → get_or (take n nodes) i no_node ≡ node → (i < n) × (node_at nodes i ≡ node)
item nodes n i node h e =
    let low : i < n = omega (arith, length-take n nodes) in
    (low, sym (get_or-take n nodes i no_node low) ∙ e)

pub loop-i-preserved-then-holds : goal.loop-i-preserved-then-holds
loop-i-preserved-then-holds c =
    let t = c.args.self.now in
    let l = c.loop-i in
    let i = c.in-Some.i in
    let h = c.in-Some.ensures.steps in
    let nodes = take t.table.len t.table.nodes in
    let k : Taken nodes no_node l.i-iterator c.next.new.self i c.in-Some.node.now = taken nodes no_node l.i-iterator c.next.new.self i c.in-Some.node.now l.invariant.ahead h.0 h.1.0 h.1.1 in
    let x = item t.table.nodes t.table.len i c.in-Some.node.now k.low k.item in
    record {
      ahead = k.ahead;
      truths = ap (bit_or l.next) (c.only-next.ensures ∙ only_pow i (omega (arith, t.few, x.0)))
          ∙ turn_yes (length t.starts) t.table.len t.table.nodes t.sound t.few c.args.code c.args.action i (length (rest l.i-iterator)) l.next c.in-Some.node.now x.0 k.more x.1 l.invariant.truths (sym c.if-holds.ensures)
          ∙ ap (λ j. code_of 62 (from t.table.len (eval t.table.len t.table.nodes (bit_of c.args.code) c.args.action) j)) k.here;
    }

pub loop-i-preserved : goal.loop-i-preserved
loop-i-preserved c =
    let t = c.args.self.now in
    let l = c.loop-i in
    let i = c.in-Some.i in
    let h = c.in-Some.ensures.steps in
    let nodes = take t.table.len t.table.nodes in
    let k : Taken nodes no_node l.i-iterator c.next.new.self i c.in-Some.node.now = taken nodes no_node l.i-iterator c.next.new.self i c.in-Some.node.now l.invariant.ahead h.0 h.1.0 h.1.1 in
    let x = item t.table.nodes t.table.len i c.in-Some.node.now k.low k.item in
    record {
      ahead = k.ahead;
      truths = turn_no (length t.starts) t.table.len t.table.nodes t.sound t.few c.args.code c.args.action i (length (rest l.i-iterator)) l.next c.in-Some.node.now x.0 k.more x.1 l.invariant.truths (sym c.if-holds.ensures)
          ∙ ap (λ j. code_of 62 (from t.table.len (eval t.table.len t.table.nodes (bit_of c.args.code) c.args.action) j)) k.here;
    }

pub returns-then-bad : goal.returns-then-bad
returns-then-bad c =
    let t = c.args.self.now in
    let end : length (rest c.loop-i.i-iterator) ≡ 0 = c.in-None.ensures.steps.1.0 in
    let inv = c.loop-i.invariant.truths ∙ ap (λ i. code_of 62 (from t.table.len (eval t.table.len t.table.nodes (bit_of c.args.code) c.args.action) i)) end in
    let told : (bit_of c.args.code 61 || not (bit_of c.loop-i.next 0)) ≡ true =
    elim c.then-bad.branch [
      | then-bad-via-then-bad w ↦ or_left _ _ (sym w.if-bad.ensures)
      | then-bad-via-else-bad+then-not-has w ↦ or_right _ _ (not_from_false _ (sym w.if-not-has.ensures))
    ] in
    let value = ap (λ x. bit_or (bit_or c.loop-i.next x) c.only-all.result) (c.only.ensures ∙ only_pow 60 (omega arith))
    ∙ ap (bit_or (bit_or c.loop-i.next (2 ^ 60))) (c.only-all.ensures ∙ only_pow 61 (omega arith))
    ∙ whole_yes t.table.len t.table.nodes t.some t.few c.args.code c.args.action c.loop-i.next inv told in
    let s = settled (length t.starts) t.table.len t.table.nodes t.sound t.some t.few c.args.code c.args.action _ value in
    record { value = value; rule = s.0; alone = s.1 }

pub returns-else-not-has : goal.returns-else-not-has
returns-else-not-has c =
    let t = c.args.self.now in
    let end : length (rest c.loop-i.i-iterator) ≡ 0 = c.in-None.ensures.steps.1.0 in
    let inv = c.loop-i.invariant.truths ∙ ap (λ i. code_of 62 (from t.table.len (eval t.table.len t.table.nodes (bit_of c.args.code) c.args.action) i)) end in
    let told : (bit_of c.args.code 61 || not (bit_of c.loop-i.next 0)) ≡ false =
    or_from _ _ (sym c.if-bad.ensures) (not_from_true _ (sym c.if-not-has.ensures)) in
    let value = ap (bit_or c.loop-i.next) (c.only.ensures ∙ only_pow 60 (omega arith))
    ∙ whole_no t.table.len t.table.nodes t.some t.few c.args.code c.args.action c.loop-i.next inv told in
    let s = settled (length t.starts) t.table.len t.table.nodes t.sound t.some t.few c.args.code c.args.action _ value in
    record { value = value; rule = s.0; alone = s.1 }
