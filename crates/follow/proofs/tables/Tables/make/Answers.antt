use Rattle.std.proofs.Common.{◌≡◌, ℕ, suc, ◌+◌, ◌<◌, List, length, sym, refl, ◌∙◌, subst, arith}
use Rattle.events.specs.declared.event.Event.{Event}
use Rattle.follow.proofs.Filling.{Filled, filled_none, filled_more}
use Rattle.follow.proofs.Making.{fit_of, made_of}
use Rattle.follow.proofs.tables.Tables.make.Goals as goal
use Rattle.follow.proofs.tables.Tables.make.Goals.{then-e-lt8, else-e-lt8}

pub loop-e-init : goal.loop-e-init
loop-e-init c = λ o small noted. subst (Filled c.args.events.now 0) (sym c.blank-tables.ensures) (filled_none c.args.events.now)

pub loop-e-preserved : goal.loop-e-preserved
loop-e-preserved c = λ o small noted.
    let es : List Event = c.args.events.now in
    let n : ℕ = c.loop-e.e-index in
    let fit = fit_of o es small noted in
    let near : n < length es = c.loop-e-test.true in
    let more : suc n ≡ n + 1 = omega arith in
    elim c.if-e-lt8.branch [
      | then-e-lt8 w ↦
          subst (λ z. Filled es z c.if-e-lt8.tables) more
          (subst (Filled es (suc n)) (sym (w.tables-is ∙ w.enter.ensures.2))
          (filled_more es fit n near c.loop-e.tables w.enter.ensures.0 w.enter.ensures.1 (c.loop-e.invariant o small noted)))
      | else-e-lt8 w ↦ absurd (omega (arith, fit.few n near, w.if-e-lt8.false))
    ]

pub returns : goal.returns
returns c = λ o small noted.
    let es : List Event = c.args.events.now in
    let all : c.loop-e.e-index ≡ length es = omega arith in
    made_of es (fit_of o es small noted) c.loop-e.tables _ (subst (λ z. Filled es z c.loop-e.tables) all (c.loop-e.invariant o small noted))
    refl refl refl refl c.sum_up.ensures
