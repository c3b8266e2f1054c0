-- The numbers of refusals.
use Rattle.std.specs.Prelude.{ℕ}
use Rattle.mapping.specs.declared.refusal.MapRefusal.{MapRefusal}
use Rattle.mapping.specs.declared.refusal.MapRefusal.TheVariants.{Void, Rows}

abbrev pub map_number : MapRefusal → ℕ
map_number Void = 9
map_number Rows = 41
