use Rattle.std.proofs.Common.{◌+◌, List, sym, refl, ◌∙◌, subst}
use Rattle.std.proofs.lemmas.Result.{err_from_is_err_and}
use Rattle.events.specs.declared.event.Action.{Action}
use Rattle.events.specs.Noting.{Opening}
use Rattle.trace.specs.Meaning.{opening_of, noted_of}
use Rattle.predictor.specs.Outcome.{Stuck}
use Rattle.predictor.proofs.Progress.{Progress, begun, noted_next, stuck}
use Rattle.predictor.proofs.noting.note_all.Goals as goal

pub loop-i-init : goal.loop-i-init
loop-i-init c = (refl, refl, begun _ _ _ c.requires)

pub loop-i-preserved : goal.loop-i-preserved
loop-i-preserved c =
    let h = c.in_ok-note_line.ensures in
    let w = c.loop-i.invariant.0 in
    let actions : List Action = c.args.actions.now in
    let P : Opening → Type 0 = λ o. Progress o actions (noted_of c.loop-i.trace) c.loop-i.i in
    let Q : Opening → Type 0 = λ o. Progress o actions (noted_of c.note_line.new.trace) (c.loop-i.i + 1) in
    let p : Progress (opening_of c.loop-i.trace) actions (noted_of c.loop-i.trace) c.loop-i.i = subst P (sym w) c.loop-i.invariant.2 in (
      h.opening ∙ w,
      h.loan ∙ c.loop-i.invariant.1,
      subst Q w (noted_next (opening_of c.loop-i.trace) actions (noted_of c.loop-i.trace) (noted_of c.note_line.new.trace) c.loop-i.i _ _ p c.loop-i-test.true h.says h.noted),
    )

pub returns-in_err-note_line-clause-notes : goal.returns-in_err-note_line-clause-notes
returns-in_err-note_line-clause-notes c =
    let h = c.in_err-note_line.ensures in
    let w = c.loop-i.invariant.0 in
    let actions : List Action = c.args.actions.now in
    let P : Opening → Type 0 = λ o. Progress o actions (noted_of c.loop-i.trace) c.loop-i.i in
    let p : Progress (opening_of c.loop-i.trace) actions (noted_of c.loop-i.trace) c.loop-i.i = subst P (sym w) c.loop-i.invariant.2 in
    let f = err_from_is_err_and c.from_residual.result c.from_residual.ensures.1 in
    let s = stuck (opening_of c.loop-i.trace) actions (noted_of c.loop-i.trace) (noted_of c.note_line.new.trace) c.loop-i.i _ _ p c.loop-i-test.true h.says h.noted in
    let Q : Opening → Type 0 = λ o. Stuck o actions (noted_of c.note_line.new.trace) c.loop-i.i s.0 in
    rw (f.1, f.2) (c.loop-i.i, s.0, subst Q w s.1, s.2)
