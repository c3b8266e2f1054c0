use Rattle.std.proofs.Common.{◌≡◌, ◌+◌, ◌≤◌, map, length}
use Rattle.explore.specs.Paths.{path_to}
use Rattle.explore.proofs.path.depth.Given as goal

-- the steps that were counted and those that are left are all
abbrev pub invariant-loop-from : goal.invariant-loop-from
invariant-loop-from g l =
    (l.n + length (path_to (map g.R.Traced.found_from l.rows) (map g.R.Traced.found_by l.rows) l.place)
    ≡ length (path_to (map g.R.Traced.found_from l.rows) (map g.R.Traced.found_by l.rows) l.row))
    × (l.n + l.place ≤ l.row)

abbrev pub decreases-loop-from : goal.decreases-loop-from
decreases-loop-from g l = l.place
