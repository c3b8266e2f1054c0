-- The system that tables and a monitor compute. It is total: it leads on from any pair, also from one that cannot be reached.
use Rattle.std.specs.Prelude.{ℕ, Some, None, Ok, Err, Option, Result}
use Rattle.explore.specs.System.{System}
use Rattle.events.specs.declared.event.Event.{Event}
use Rattle.follow.specs.declared.no_next.NoNext.{NoNext}
use Rattle.follow.specs.declared.tables.Tables.{Tables}
use Rattle.follow.specs.Looking.{next_in}
use Rattle.monitor.specs.Meaning.{Meaning}
use Rattle.pairs.specs.declared.pair.Pair.{Pair}
use Rattle.pairs.specs.Pairs.{first_pair, moved}

-- where an answer leads from the pair x by thread t: on by an event that may follow, and else nowhere
abbrev pub moved_as : Meaning → Pair → ℕ → Result Event NoNext → Option Pair
moved_as m x t (Ok e) = Some (moved m x t e)
moved_as m x t (Err why) = None

abbrev pub tabled : Tables → ℕ → Meaning → System Pair
tabled tables n m = record {
  first = first_pair m;
  labels = n;
  next = λ x t. moved_as m x t (next_in tables x.cut t);
}
