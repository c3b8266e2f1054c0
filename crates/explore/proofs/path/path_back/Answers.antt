use Rattle.std.proofs.Common.{◌≡◌, ◌-◌, ◌++◌, map, get_or, drop, sym, ◌∙◌, arith}
use Rattle.std.proofs.lemmas.List.{length-set}
use Rattle.explore.specs.Paths.{path_to}
use Rattle.explore.proofs.ReadBack.{some_parent, path_more, laid_more, label_read}
use Rattle.explore.proofs.path.path_back.Goals as goal

pub overflow_sub-n : goal.overflow_sub-n
overflow_sub-n g c =
    let fs = map g.R.Traced.found_from c.args.rows.now in
    let ls = map g.R.Traced.found_by c.args.rows.now in
    let e = path_more fs ls c.loop-from.i c.in-Some.from c.in-Some.ensures in
    omega (arith, c.loop-from.invariant.1)

pub bounds-labels-n : goal.bounds-labels-n
bounds-labels-n g c =
    let fs = map g.R.Traced.found_from c.args.rows.now in
    let ls = map g.R.Traced.found_by c.args.rows.now in
    let e = path_more fs ls c.loop-from.i c.in-Some.from c.in-Some.ensures in
    omega (arith, c.loop-from.invariant.1, c.loop-from.invariant.2)

pub loop-from-preserved : goal.loop-from-preserved
loop-from-preserved g c =
    let fs = map g.R.Traced.found_from c.args.rows.now in
    let ls = map g.R.Traced.found_by c.args.rows.now in
    let p = some_parent fs c.loop-from.i c.in-Some.from c.in-Some.ensures in
    let e = path_more fs ls c.loop-from.i c.in-Some.from c.in-Some.ensures in
    let v = c.loop-from.invariant in
    let l : get_or ls c.loop-from.i 0 ≡ g.R.Traced.found_by c.index-rows-i.result = label_read g.R.Traced.found_by c.args.rows.now c.loop-from.i c.index-rows-i.result (v.0, c.index-rows-i.is) in (
      omega (arith, v.0),
      omega (arith, v.1),
      simp length-set (omega (arith, v.2)),
      laid_more fs ls c.loop-from.i c.in-Some.from c.loop-from.n (c.loop-from.n - 1) c.label.result (path_to fs ls c.args.row ++ drop c.depth-len.result c.args.labels.now) c.loop-from.labels c.in-Some.ensures
          (omega (arith, v.1)) (omega (arith, v.1, v.2)) (c.label.ensures ∙ sym l) v.3,
    )
