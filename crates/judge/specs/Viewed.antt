-- Rows as rows of pairs.
use Rattle.std.specs.Prelude.{Bool, List}
use Rattle.explore.specs.Rows.{Row}
use Rattle.explore.specs.Entries.{rows_of}
use Rattle.pairs.specs.declared.pair.Pair.{Pair}
use Rattle.pairs.specs.Pairs.{same}
use Rattle.judge.specs.declared.row.SearchRow.{SearchRow}

-- the row has this pair
abbrev pub is_pair : Pair → SearchRow → Bool
is_pair x row = same row.pair x

-- the pairs, each with the row that it was found from and the thread that led there
abbrev pub viewed : List SearchRow → List (Row Pair)
viewed rows = rows_of (λ (row : SearchRow). row.pair) (λ (row : SearchRow). row.from) (λ (row : SearchRow). row.thread) rows
