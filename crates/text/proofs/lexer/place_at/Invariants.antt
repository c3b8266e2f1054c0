use Rattle.std.proofs.Common.{◌≡◌, ◌+◌, ◌≤◌, drop}
use Rattle.text.specs.Places.{behind_all, byte_place}
use Rattle.text.proofs.lexer.place_at.Given as goal

-- the bytes that are left lead from the place to the one that is asked for
abbrev pub invariant-loop-byte : goal.invariant-loop-byte
invariant-loop-byte l =
    (l.place.line ≤ l.byte-index + 1)
    × (l.place.column ≤ l.byte-index + 1)
    × (behind_all l.place (drop l.byte-index l.byte-items) ≡ byte_place l.text l.at)
