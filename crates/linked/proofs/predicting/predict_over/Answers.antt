use Rattle.std.proofs.Common.{Err, Result, sym, refl, ap, ◌∙◌, subst, replicate}
use Rattle.std.proofs.lemmas.List.{length-replicate}
use Rattle.std.proofs.lemmas.Result.{err_from_is_err_and}
use Rattle.judge.specs.declared.row.SearchRow.{SearchRow}
use Rattle.predictor.specs.declared.fault.Stop.{Stop}
use Rattle.predictor.specs.declared.predicting.Prediction.{Prediction}
use Rattle.linked.specs.Told.{Says}
use Rattle.linked.proofs.predicting.predict_over.Goals as goal

-- what the rows would have held
blank : SearchRow
blank = record { pair = record { cut = replicate 8 0; code = 0 }; from = 0; thread = 0 }

pub returns-in_err-pairs : goal.returns-in_err-pairs
returns-in_err-pairs c =
    let p = err_from_is_err_and c.from_residual.result c.from_residual.ensures.1 in
    let P : Result Prediction Stop → Type 0 = λ r. Says c.args.text.now c.args.rows c.args.threads.now r c.args.threads.now in
    subst P (sym (p.1 ∙ ap Err p.2))
    record {
      lent = replicate c.args.rows blank;
      many = length-replicate c.args.rows blank;
      left = replicate c.args.rows blank;
      predicted = (refl, refl);
      rule = tt;
    }
