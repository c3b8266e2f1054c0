-- Places of bytes.
use Rattle.std.specs.Prelude.{ℕ, ◌+◌, cond, List, [], ◌∷◌, take, ◌==◌}
use Rattle.text.specs.declared.place.Place.{Place}

-- the place of a text's first byte
abbrev pub start : Place
start = record { line = 1; column = 1 }

-- the place behind a byte at p: a byte 10 ends its line
abbrev pub past : Place → ℕ → Place
past p c = cond (c == 10) (record { line = p.line + 1; column = 1 }) (record { line = p.line; column = p.column + 1 })

-- the place behind bytes, the first of which is at p
abbrev pub behind_all : Place → List ℕ → Place
behind_all p [] = p
behind_all p (c ∷ cs) = behind_all (past p c) cs

-- the place of the byte that has k bytes ahead of it
abbrev pub byte_place : List ℕ → ℕ → Place
byte_place t k = behind_all start (take k t)
