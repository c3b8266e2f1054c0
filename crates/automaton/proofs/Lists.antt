-- Whether any of the arcs of a list passes.
use Rattle.std.proofs.Common.{◌≡◌, Bool, true, false, List}
use Rattle.std.specs.List.{Contains, list_any}
use Rattle.std.proofs.lemmas.Bool.{both_ways}
use Rattle.std.proofs.lemmas.List.Folds.{Any-from_list_any, list_any-from_Any}
use Rattle.automaton.specs.declared.arc.Arc.{Arc}

pub any_sound : (f : Arc → Bool) (arcs : List Arc) → list_any f arcs ≡ true → (arc : Arc) × Contains arcs arc × (f arc ≡ true)
any_sound f arcs h =
    let found = Any-from_list_any f arcs h in
    (found.1, (found.0, found.2, found.3), found.4)

pub any_complete : (f : Arc → Bool) (arcs : List Arc) (arc : Arc) → Contains arcs arc → f arc ≡ true → list_any f arcs ≡ true
any_complete f arcs arc o e = list_any-from_Any f arcs (o.0, arc, o.1, o.2, e)

-- no arc of the list passes
pub any_none : (f : Arc → Bool) (arcs : List Arc) (arc : Arc) → list_any f arcs ≡ false → Contains arcs arc → f arc ≡ true → ⊥
any_none f arcs arc none o e = both_ways _ none (any_complete f arcs arc o e)
