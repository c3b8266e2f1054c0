use Rattle.std.proofs.Common.{[], ◌∷◌, ◌++◌, ℤ, Ok, Err, vec_items, ap, ◌∙◌, to_z-of_z, w32, SFits, rules}
use Rattle.std.proofs.lemmas.Result.{err_from_is_err_and}
use Rattle.text.proofs.Loops.{list_err, value_next, values_more, values_read}
use Rattle.text.proofs.build.values.Goals as goal

pub returns-in_err-value : goal.returns-in_err-value
returns-in_err-value c whole ps rest zs stand is =
    let p = err_from_is_err_and c.from_residual.result c.from_residual.ensures.1 in
    let next = value_next (c.loop-part.invariant whole ps rest zs stand is) c.in-Some.part.now c.in-Some.place (Err c.in_err-value.field-0.0) c.in-Some.ensures.number c.in_err-value.ensures.spelt c.digits.ensures.moved in
    list_err whole rest c.digits.new.reader zs p.1 p.2 next.taken

pub loop-part-preserved : goal.loop-part-preserved
loop-part-preserved c whole ps rest zs stand is =
    let next = value_next (c.loop-part.invariant whole ps rest zs stand is) c.in-Some.part.now c.in-Some.place (Ok c.in_ok-value.value) c.in-Some.ensures.number c.in_ok-value.ensures.spelt c.digits.ensures.moved in
    let fits : SFits w32 c.in_ok-value.value = search rules in
    values_more (vec_items c.push.new.self) c.in_ok-value.value next (c.in_ok-push.ensures.items ∙ ap (λ (v : ℤ). vec_items c.loop-part.values ++ v ∷ []) (to_z-of_z fits))

pub returns : goal.returns
returns c whole ps rest zs stand is = values_read (c.loop-part.invariant whole ps rest zs stand is) c.in_default.ensures.number c.digits.ensures.moved
