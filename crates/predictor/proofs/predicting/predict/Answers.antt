use Rattle.std.proofs.Common.{List, length, ℤ, Ok, Err, ap, ◌∙◌, subst}
use Rattle.std.proofs.lemmas.Result.{err_from_is_err_and}
use Rattle.events.specs.declared.event.Action.{Action}
use Rattle.events.specs.declared.event.Event.{Event}
use Rattle.events.specs.Noting.{Opening, opened}
use Rattle.trace.specs.Meaning.{opening_of, noted_of}
use Rattle.predictor.specs.declared.predicting.Prediction.{Prediction}
use Rattle.predictor.specs.Outcome.{Whole}
use Rattle.predictor.proofs.Stops.{spelled, stopped_ruling, ready, ruled, counted}
use Rattle.predictor.proofs.Telling.{told}
use Rattle.predictor.proofs.predicting.predict.Goals as goal

pub returns-in_err-judged-clause-predicted : goal.returns-in_err-judged-clause-predicted
returns-in_err-judged-clause-predicted c =
    let p = err_from_is_err_and c.from_residual-in_err-judged.result c.from_residual-in_err-judged.ensures.1 in
    let t = c.args.text.now in
    let room = length c.args.rows.now in
    let rec = c.in_ok-recording.recording in
    let h = c.in_ok-recording.ensures in
    let o : Opening = opening_of c.open-trace.result in
    let asked = c.open-trace.ensures.opening ∙ ap (λ (vs : List ℤ). opened rec.threads vs room) c.deref.ensures.value in
    let es : List Event = noted_of c.note_all.new.trace in
    let Q : List Action → Type 0 = λ acts. Whole o acts es in
    let whole = subst Q c.deref-2.ensures.value c.in_ok-note_all.ensures.notes in
    let free = c.in_ok-opened.ensures in
    let u = c.in_ok-opened.field-0 in
    let v = ruled t room c.args.pairs.now c.args.threads.now rec h o asked u free es whole (opening_of c.note_all.new.trace) (Err c.in_err-judged.field-0.0) c.judge_rule.new.pairs c.judge_rule.new.threads
    c.in_ok-note_all.ensures.opening c.in_err-judged.ensures in
    stopped_ruling t room c.args.pairs.now c.args.threads.now rec h o asked u free es whole _ p.0 _ c.judge_rule.new.pairs c.judge_rule.new.threads p.1 p.2 v

pub returns : goal.returns
returns c =
    let t = c.args.text.now in
    let room = length c.args.rows.now in
    let rec = c.in_ok-recording.recording in
    let h = c.in_ok-recording.ensures in
    let o : Opening = opening_of c.open-trace.result in
    let asked = c.open-trace.ensures.opening ∙ ap (λ (vs : List ℤ). opened rec.threads vs room) c.deref.ensures.value in
    let es : List Event = noted_of c.note_all.new.trace in
    let Q : List Action → Type 0 = λ acts. Whole o acts es in
    let whole = subst Q c.deref-2.ensures.value c.in_ok-note_all.ensures.notes in
    let free = c.in_ok-opened.ensures in
    let u = c.in_ok-opened.field-0 in
    let pairs = c.args.pairs.now in
    let threads = c.args.threads.now in
    let v = ruled t room pairs threads rec h o asked u free es whole (opening_of c.note_all.new.trace) (Ok c.in_ok-judged.judged) c.judge_rule.new.pairs c.judge_rule.new.threads
    c.in_ok-note_all.ensures.opening c.in_ok-judged.ensures in
    let p : Prediction = record { verdict = c.in_ok-judged.judged.verdict; pairs = c.in_ok-judged.judged.pairs; events = c.len-events.result } in
    let r = ready t room pairs threads rec h o asked u free es whole in
    let n = counted t room pairs threads rec h o asked u free es whole _ (c.len-events.ensures ∙ rec.actions.ok.0) in
    record {
      predicted = (spelled t room pairs threads rec h o asked, es, r, n, (rec.rule_place, v));
      rule = (spelled t room pairs threads rec h o asked, es, r, told t room (spelled t room pairs threads rec h o asked) es p rec.rule_place pairs c.judge_rule.new.pairs threads c.judge_rule.new.threads r v);
    }
