use Rattle.std.proofs.Common.{ap, ◌∙◌, take_all}
use Rattle.std.proofs.lemmas.Bool.Decides.{Decides-at}
use Rattle.monitor.specs.Meaning.{ran}
use Rattle.monitor.proofs.Ends.{end_tells}
use Rattle.monitor.proofs.runs.run.Goals as goal

pub returns : goal.returns
returns g c =
    let m = g.M.Monitor.meaning c.args.monitor.now in
    let all = c.loop-action.invariant ∙ ap (ran m) (take_all _ _ c.loop-action-test.false) in
    let told = end_tells m c.args.actions.now in
    let same = ap m.bad all in
    record { code = all; violated = Decides-at _ _ (c.bad.ensures ∙ same) told; tells = Decides-at _ _ same told }
