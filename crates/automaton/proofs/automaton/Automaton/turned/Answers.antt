use Rattle.std.proofs.Common.{◌+◌, take, sym, ap, ◌∙◌, subst}
use lib.Bits.{bit_or}
use Rattle.codes.proofs.Bitwise.{bit_zero}
use Rattle.automaton.specs.Moves.{leaving}
use Rattle.automaton.proofs.Turns.{Marks, marks_yes, marks_no}
use Rattle.automaton.proofs.automaton.Automaton.turned.Goals as goal
use Rattle.automaton.proofs.automaton.Automaton.turned.Goals.{then-leaves_by, else-leaves_by}

pub loop-arc-init : goal.loop-arc-init
loop-arc-init c = (λ s _. bit_zero s, λ s _. bit_zero s)

pub loop-arc-preserved : goal.loop-arc-preserved
loop-arc-preserved c =
    let passes = leaving c.args.self.now.bad c.args.code c.args.action in
    let arcs = c.args.self.now.arcs.now in
    let i = c.loop-arc.arc-index in
    let at = c.loop-arc-test.true in
    elim c.if-leaves_by.branch [
      | then-leaves_by w ↦
          let yes = sym w.if-leaves_by.ensures in (
            subst (Marks passes (λ arc. arc.from) (take (i + 1) arcs)) (sym (w.left-is ∙ ap (bit_or c.loop-arc.left) w.only-left.ensures))
                (marks_yes passes (λ arc. arc.from) arcs i _ c.loop-arc.left at yes c.loop-arc.invariant.0),
            subst (Marks passes (λ arc. arc.to) (take (i + 1) arcs)) (sym (w.reached-is ∙ ap (bit_or c.loop-arc.reached) w.only-reached.ensures))
                (marks_yes passes (λ arc. arc.to) arcs i _ c.loop-arc.reached at yes c.loop-arc.invariant.1),
          )
      | else-leaves_by w ↦
          let no = sym c.leaves_by.ensures ∙ w.if-leaves_by.false in (
            subst (Marks passes (λ arc. arc.from) (take (i + 1) arcs)) (sym w.left-is)
                (marks_no passes (λ arc. arc.from) arcs i _ c.loop-arc.left at no c.loop-arc.invariant.0),
            subst (Marks passes (λ arc. arc.to) (take (i + 1) arcs)) (sym w.reached-is)
                (marks_no passes (λ arc. arc.to) arcs i _ c.loop-arc.reached at no c.loop-arc.invariant.1),
          )
    ]
