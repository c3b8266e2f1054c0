-- The objects by number: variable x is x, and lock l is 32 + l.
use Rattle.std.specs.Prelude.{◌≡◌, ℕ, ◌+◌, ◌<◌, ◌⊎◌}
use Rattle.follow.specs.declared.role.Role.{Role}
use Rattle.follow.specs.declared.role.Role.TheVariants.{Lead, Take, Apart}

-- the events of kind k and subject s are the reads or the releases of object b
abbrev pub Takes : ℕ → ℕ → ℕ → Type 0
Takes k s b = ((k ≡ 1) × (s < 32) × (b ≡ s)) ⊎ ((k ≡ 4) × (s < 16) × (b ≡ 32 + s))

-- they are its writes or its acquires
abbrev pub LeadsOf : ℕ → ℕ → ℕ → Type 0
LeadsOf k s b = ((k ≡ 2) × (s < 32) × (b ≡ s)) ⊎ ((k ≡ 3) × (s < 16) × (b ≡ 32 + s))

abbrev pub RoleOf : ℕ → ℕ → Role → Type 0
RoleOf k s (Take o) = (o.number < 48) × Takes k s o.number
RoleOf k s (Lead o) = (o.number < 48) × LeadsOf k s o.number
RoleOf k s Apart = (b : ℕ) → (Takes k s b → ⊥) × (LeadsOf k s b → ⊥)
