-- The numbers of faults, and their places.
use Rattle.std.specs.Prelude.{ℕ}
use Rattle.text.specs.declared.place.Place.{Place}
use Rattle.text.specs.declared.fault.TextFault.{TextFault}
use Rattle.text.specs.declared.fault.TextFault.TheVariants.{TooLong, Unexpected, EndsEarly, OutOfRange}
use Rattle.text.specs.Places.{start}

abbrev pub text_number : TextFault → ℕ
text_number TooLong = 60
text_number (Unexpected p) = 61
text_number (EndsEarly p) = 62
text_number (OutOfRange p) = 63

abbrev pub text_place : TextFault → Place
text_place TooLong = start
text_place (Unexpected p) = p
text_place (EndsEarly p) = p
text_place (OutOfRange p) = p
