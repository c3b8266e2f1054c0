-- Rows and the pairs in them.
use Rattle.std.specs.Prelude.{◌≡◌, ℕ, ◌<◌, List, [], ◌∷◌, map, length, replicate, slice_index_or, refl}
use Rattle.std.proofs.Common.{sym, ap, ◌∙◌, arith}
use Rattle.std.proofs.lemmas.List.{get_or-map, length-map}
use Rattle.explore.specs.Rows.{Row, row_of, At}
use Rattle.pairs.specs.declared.pair.Pair.{Pair}
use Rattle.judge.specs.declared.row.SearchRow.{SearchRow}
use Rattle.judge.specs.Viewed.{viewed}

-- read only past the end of rows
abbrev pub no_row : SearchRow
no_row = record { pair = record { cut = replicate 8 0; code = 0 }; from = 0; thread = 0 }

abbrev pub view : SearchRow → Row Pair
view row = row_of row.pair row.from row.thread

abbrev unview : Row Pair → SearchRow
unview r = record { pair = r.node; from = r.from; thread = r.label }

-- rows are told by what they stand for
unviewed : (xs : List SearchRow) → map unview (viewed xs) ≡ xs
unviewed [] = refl
unviewed (x ∷ xs) = ap (λ (ys : List SearchRow). x ∷ ys) (unviewed xs)

pub same_rows : (xs ys : List SearchRow) → viewed xs ≡ viewed ys → xs ≡ ys
same_rows xs ys e = sym (unviewed xs) ∙ ap (map unview) e ∙ unviewed ys

pub many_viewed : (xs : List SearchRow) → length (viewed xs) ≡ length xs
many_viewed xs = length-map xs view

pub at_view : (xs : List SearchRow) (j : ℕ) (d : SearchRow) → j < length xs → At (viewed xs) j (view (slice_index_or xs j d))
at_view xs j d l = (omega (arith, many_viewed xs), sym (get_or-map view xs j d (view (slice_index_or xs j d)) l))

pub is_view : (xs : List SearchRow) (j : ℕ) (s : Row Pair) → At (viewed xs) j s → s ≡ view (slice_index_or xs j no_row)
is_view xs j s at = at.1 ∙ get_or-map view xs j no_row s (omega (arith, at.0, many_viewed xs))
