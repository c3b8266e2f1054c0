use Rattle.std.proofs.Common.{◌+◌, Err, sym, ap, ◌∙◌, subst, arith}
use Rattle.std.proofs.lemmas.Result.{err_from_is_err_and}
use Rattle.formula.specs.Spelling.{Spells}
use Rattle.formula.proofs.Scan.{Scanned, skipped, pushed, faulty, finished}
use Rattle.formula.proofs.spell.spell.Goals as goal
use Rattle.formula.proofs.spell.spell.Goals.{then-byte-eq40+in_ok-word_at, else-byte-eq40}

pub returns-in_err-word_at : goal.returns-in_err-word_at
returns-in_err-word_at c f n e =
    let t = c.args.text.now in
    let p = err_from_is_err_and c.from_residual.result c.from_residual.ensures.1 in
    subst (Spells t f) (sym (p.1 ∙ ap Err p.2))
    (faulty t c.loop-at.at c.loop-at.spelling (omega arith) c.loop-at.invariant c.if-byte-eq40.true _ c.in_err-word_at.ensures f n e)

pub loop-at-preserved : goal.loop-at-preserved
loop-at-preserved c =
    let t = c.args.text.now in
    let l = c.loop-at in
    elim c.if-byte-eq40.branch [
      | then-byte-eq40+in_ok-word_at w ↦ subst (λ s. Scanned t (l.at + 1) s) (sym w.spelling-is) (pushed t l.at l.spelling (omega arith) l.invariant w.if-byte-eq40.true _ w.in_ok-word_at.ensures _ w.push.ensures.room w.push.ensures.full)
      | else-byte-eq40 w ↦ subst (λ s. Scanned t (l.at + 1) s) (sym w.spelling-is) (skipped t l.at l.spelling (omega arith) l.invariant w.if-byte-eq40.false)
    ]

pub returns : goal.returns
returns c f n e = finished c.args.text.now c.loop-at.at c.loop-at.spelling (omega arith) c.loop-at.invariant f n e
