-- Which numbers are in range, and which piece of a text is the first that is not.
use Rattle.std.specs.Prelude.{◌≡◌, ℕ, ◌^◌, ◌<◌, ◌≤◌, Bool, cond, List, ◌∷◌, ◌++◌, length, ℤ, Ok, Err, Result, nat_le, nat_lt}
use Rattle.std.specs.Int.Signed.{mag}
use Rattle.grammar.specs.Recording.{Piece, All, TenDigits, flat}
use Rattle.grammar.specs.Recording.{opening, closing, blank, newline, word, small, wide}
use Rattle.text.specs.declared.place.Place.{Place}
use Rattle.text.specs.declared.fault.TextFault.{TextFault}
use Rattle.text.specs.declared.fault.TextFault.TheVariants.{OutOfRange}

-- a small number is at most 255, and a wide one fits 32 bits: `mag` is n at n and at -(n + 1)
abbrev pub InRange : Piece → Type 0
InRange opening = Unit {0}
InRange closing = Unit {0}
InRange blank = Unit {0}
InRange newline = Unit {0}
InRange (word w) = Unit {0}
InRange (small n) = n ≤ 255
InRange (wide z) = mag z < 2 ^ 31

-- k bytes stand ahead of the first piece that is out of range
abbrev pub FirstOut : List Piece → ℕ → Type 0
FirstOut ps k =
    (qs : List Piece) × (p : Piece) × (rest : List Piece) × (ps ≡ qs ++ p ∷ rest) × All InRange qs × (InRange p → ⊥) × (k ≡ length (flat qs))

-- the number if it is in range, and else the fault at its place
abbrev pub if_fits : {A : Type 0} → Bool → A → Place → Result A TextFault
if_fits b x p = cond b (Ok x) (Err (OutOfRange p))

-- a number that a legal text has: of at most ten digits
abbrev pub Short : Piece → Type 0
Short opening = Unit {0}
Short closing = Unit {0}
Short blank = Unit {0}
Short newline = Unit {0}
Short (word w) = Unit {0}
Short (small n) = n < 10 ^ 10
Short (wide z) = TenDigits z

-- what a piece spells if it is in range, and else the fault at its place
abbrev pub fitting : {A : Type 0} → Piece → A → Place → Result A TextFault
fitting opening x p = Ok x
fitting closing x p = Ok x
fitting blank x p = Ok x
fitting newline x p = Ok x
fitting (word w) x p = Ok x
fitting (small n) x p = if_fits (nat_le n 255) x p
fitting (wide z) x p = if_fits (nat_lt (mag z) (2 ^ 31)) x p

abbrev pub small_number : ℕ → Place → Result ℕ TextFault
small_number n p = fitting (small n) n p

abbrev pub wide_number : ℤ → Place → Result ℤ TextFault
wide_number z p = fitting (wide z) z p

-- what a reading of a number tells, with the place of what it does not read
abbrev pub told_at : {A E : Type 0} → Result A E → Place → Result A TextFault
told_at (Ok x) p = Ok x
told_at (Err e) p = Err (OutOfRange p)

-- the answer is that of some reading of the bytes
abbrev pub ParsedAt : {A E : Type 0} → (List ℕ → Result A E → Type 0) → List ℕ → Place → Result A TextFault → Type 0
ParsedAt {A} {E} Reads bs p r = (q : Result A E) × Reads bs q × (r ≡ told_at q p)
