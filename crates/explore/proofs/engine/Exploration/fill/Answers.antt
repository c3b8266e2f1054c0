use Rattle.std.proofs.Common.{◌≡◌, [], length, false, is_ok, rules}
use Rattle.rows.specs.Listed.{lent, listed, roomy}
use Rattle.explore.proofs.Tables.{no_room}
use Rattle.explore.proofs.engine.Exploration.fill.Goals as goal

pub returns-in_err-push-clause-holds : goal.returns-in_err-push-clause-holds
returns-in_err-push-clause-holds g c =
    let list = c.args.self.now.list.now in
    let full : roomy list ≡ false = search rules in
    let used : length (lent c.push.new.self) ≡ 0 = search rules in
    let none : listed c.push.new.self ≡ [] = search rules in
    let refused : is_ok c.from_residual.result ≡ false = search rules in
    rw (used, none, refused) (no_room g.R.Keyed.keyed g.R.Traced.found_from g.R.Traced.found_by (g.M.Machine.system c.args.self.now.machine.now))
