use Rattle.std.proofs.Common.{Bool, sym, subst}
use Rattle.explore.specs.Entries.{rows_of}
use Rattle.explore.specs.Tables.{Stands}
use Rattle.rows.specs.Listed.{listed}
use Rattle.explore.proofs.Tables.{stands_is}
use Rattle.explore.proofs.engine.Exploration.stands.Goals as goal

pub returns : goal.returns
returns g c =
    subst (λ (b : Bool). Stands (rows_of g.R.Keyed.keyed g.R.Traced.found_from g.R.Traced.found_by (listed c.args.self.now.list.now)) c.args.node b) (sym c.is_some.ensures)
    (stands_is g.R.Keyed.keyed g.R.Traced.found_from g.R.Traced.found_by (listed c.args.self.now.list.now) c.args.node c.find.result c.find.ensures.first)
