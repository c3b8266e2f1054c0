use Rattle.std.proofs.Common.{◌≡◌, ℕ, ◌<◌, length, get_or}
use Rattle.mapping.specs.Rows.{base}
use Rattle.mapping.proofs.places.Bases.new.Given as goal

-- the bases below t are written, and ahead is the next
abbrev pub invariant-loop-t : goal.invariant-loop-t
invariant-loop-t l = (length l.starts ≡ 8) × (l.ahead ≡ base l.events l.t) × ((u : ℕ) → u < l.t → get_or l.starts u 0 ≡ base l.events u)
