-- That a text comes to one thing.
use Rattle.std.specs.Prelude.{◌≡◌, ℕ, List}
use Rattle.text.specs.Reading.{Reading, Right}

-- of each text exactly one answer is right
abbrev pub OneReading : Type 0
OneReading = (t : List ℕ) → (a : Reading) × Right t a × ((b : Reading) → Right t b → b ≡ a)
