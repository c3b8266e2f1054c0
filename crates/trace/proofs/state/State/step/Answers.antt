use Rattle.std.proofs.Common.{Option, sym, ap}
use Rattle.std.proofs.lemmas.Result.{err_from_is_err_and}
use Rattle.events.specs.declared.refusal.Refusal.{Refusal}
use Rattle.trace.specs.Steps.{next_place, placed}
use Rattle.trace.proofs.Fits.{step_lock}
use Rattle.trace.proofs.state.State.step.Goals as goal

pub returns-in_err-change-clause-says : goal.returns-in_err-change-clause-says
returns-in_err-change-clause-says c =
    let p = err_from_is_err_and c.from_residual-in_err-change.result c.from_residual-in_err-change.ensures.1 in
    let s = c.args.self.now in
    let a = c.args.action in
    let k = c.in_ok-admitted.ensures in
    let why = step_lock s c.args.spare a _ _ _ _ k.0 k.1 c.in_ok-weigh.ensures c.room-room.ensures c.in_err-change.ensures.says in
    rw (p.1, p.2) (sym (ap (λ (o : Option Refusal). placed o (next_place s a.thread)) why))
