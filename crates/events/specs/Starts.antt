-- Starting values as a table of 32, with 0 beyond them.
use Rattle.std.specs.Prelude.{◌≡◌, ℕ, ◌-◌, ◌≤◌, List, ◌++◌, length, take, replicate, ℤ, pos}
use Rattle.std.proofs.Common.{sym, ap, ◌∙◌, subst}
use Rattle.std.proofs.lemmas.List.{length-take-le}
use Rattle.events.specs.declared.starts.Starts.TheInside.{Inside}

-- the values that a table lists
abbrev pub listed : Inside → List ℤ
listed s = take s.count s.values

-- 0 in each place that the values leave
abbrev pub zeros : List ℤ → List ℤ
zeros values = replicate (32 - length values) (pos 0)

abbrev pub filled : List ℤ → List ℤ
filled values = values ++ zeros values

-- there are at most 32 values, and 0 beyond them
pub record IsTable (s : Inside) : Type 0 where
  pub few : s.count ≤ 32
  pub rest : s.values ≡ filled (listed s)
  pub size : length s.values ≡ 32

abbrev pub table_of : List ℤ → Inside
table_of values = record { values = filled values; count = length values }

-- a table is known by the values that it lists
pub table_of_listed : (s : Inside) → IsTable s → table_of (listed s) ≡ s
table_of_listed s h =
    ap (λ (vs : List ℤ). let t : Inside = record { values = vs; count = length (listed s) } in t) (sym h.rest)
    ∙ ap (λ (n : ℕ). let t : Inside = record { values = s.values; count = n } in t) count
  where
    count : length (listed s) ≡ s.count
    count = length-take-le s.count s.values (subst (λ (n : ℕ). s.count ≤ n) (sym h.size) h.few)
