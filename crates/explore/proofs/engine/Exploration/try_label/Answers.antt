use Rattle.std.proofs.Common.{◌≡◌, ◌+◌, ◌++◌, [], ◌∷◌, length, length-take-le, false, rules}
use Rattle.rows.specs.Listed.{lent, listed, roomy}
use Rattle.explore.proofs.Tables.{row_read, one_new, one_full, leaves_err}
use Rattle.explore.proofs.engine.Exploration.try_label.Goals as goal

pub returns-in_err-push-clause-leaves : goal.returns-in_err-push-clause-leaves
returns-in_err-push-clause-leaves g c =
    let list = c.args.self.now.list.now in
    let row = row_read list.rows.now list.len list.within c.args.i c.index-as_slice-i.result c.as_slice.result.now c.requires.inside c.as_slice.ensures c.index-as_slice-i.is in
    let full : roomy list ≡ false = search rules in
    let same : listed c.push.new.self ≡ listed list = search rules in
    let used : length (listed list) ≡ length (lent c.push.new.self) = search (rules, length-take-le) in
    leaves_err (g.M.Machine.system c.args.self.now.machine.now) _ _ c.args.i (c.args.label + 1) c.from_residual.result (search rules)
    (rw same (one_full g.R.Keyed.keyed g.R.Traced.found_from g.R.Traced.found_by (g.M.Machine.system c.args.self.now.machine.now) (listed list) c.args.i c.args.label c.index-as_slice-i.result c.requires.upto
    row c.in-Some.node (c.requires.valid, search rules) (search rules) (length (lent c.push.new.self)) used))

pub returns-in_ok-push-clause-leaves : goal.returns-in_ok-push-clause-leaves
returns-in_ok-push-clause-leaves g c =
    let list = c.args.self.now.list.now in
    let row = row_read list.rows.now list.len list.within c.args.i c.index-as_slice-i.result c.as_slice.result.now c.requires.inside c.as_slice.ensures c.index-as_slice-i.is in
    let now : listed c.push.new.self ≡ listed list ++ c.new.result ∷ [] = search rules in
    rw now (one_new g.R.Keyed.keyed g.R.Traced.found_from g.R.Traced.found_by (g.M.Machine.system c.args.self.now.machine.now) (listed list) c.args.i c.args.label c.index-as_slice-i.result c.requires.upto
    row c.in-Some.node (c.requires.valid, search rules) (search rules) c.new.result c.new.ensures.node c.new.ensures.from c.new.ensures.label)
