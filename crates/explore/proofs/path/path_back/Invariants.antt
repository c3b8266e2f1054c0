use Rattle.std.proofs.Common.{◌≡◌, ◌<◌, ◌≤◌, ◌++◌, map, length, drop}
use Rattle.explore.specs.Paths.{path_to}
use Rattle.explore.proofs.path.path_back.Given as goal

-- the path to row i is still to be written, and what follows it is there
abbrev pub invariant-loop-from : goal.invariant-loop-from
invariant-loop-from g l =
    (l.i < length l.rows)
    × (l.n ≡ length (path_to (map g.R.Traced.found_from l.rows) (map g.R.Traced.found_by l.rows) l.i))
    × (l.n ≤ length l.labels)
    × (path_to (map g.R.Traced.found_from l.rows) (map g.R.Traced.found_by l.rows) l.row ++ drop l.len l.initial.labels
    ≡ path_to (map g.R.Traced.found_from l.rows) (map g.R.Traced.found_by l.rows) l.i ++ drop l.n l.labels)

abbrev pub decreases-loop-from : goal.decreases-loop-from
decreases-loop-from g l = l.i
