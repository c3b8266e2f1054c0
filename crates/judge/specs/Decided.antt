-- What is said of listed rows.
use Rattle.std.specs.Prelude.{◌≡◌, ℕ, Bool, true, ◌&&◌, List, map, length, Some, None, ◌==◌}
use Rattle.rows.specs.First.{StandsFirst}
use Rattle.explore.specs.Paths.{path_to}
use Rattle.explore.specs.ReadBack.{back_path, written}
use Rattle.monitor.specs.Meaning.{Meaning}
use Rattle.pairs.specs.Pairs.{size_of}
use Rattle.judge.specs.declared.row.SearchRow.{SearchRow}
use Rattle.judge.specs.declared.verdict.Verdict.{Verdict}
use Rattle.judge.specs.declared.verdict.Verdict.TheVariants as verdict

-- n events are in the row's cut, and its code is bad
abbrev pub ends : Meaning → ℕ → SearchRow → Bool
ends m n row = m.bad row.pair.code && size_of row.pair.cut == n

-- the threads that led to row i
abbrev pub threads_to : List SearchRow → ℕ → List ℕ
threads_to rows i = path_to (map (λ (row : SearchRow). row.from) rows) (map (λ (row : SearchRow). row.thread) rows) i

-- The verdict by a test of rows: none passes, and the thread list stays; or the path to the first that does is written there.
abbrev pub DecidedBy : (SearchRow → Bool) → List SearchRow → List ℕ → Verdict → List ℕ → Type 0
DecidedBy test rows before verdict.None after = StandsFirst test true rows None × (after ≡ before)
DecidedBy test rows before verdict.Found after =
    (i : ℕ) × StandsFirst test true rows (Some i) × (after ≡ written (back_path (length rows) i (threads_to rows i) (length before)) (threads_to rows i) before)
