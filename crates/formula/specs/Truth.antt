-- What a formula of past-time temporal logic says of a run: its truth after each event, by the events so far.
use Rattle.std.specs.Prelude.{◌≡◌, ℕ, ◌+◌, ◌-◌, ◌<◌, ◌≤◌, ◌⊎◌, List, [], ◌∷◌, ◌++◌, ℤ, pos, ◌<ℤ◌, slice_index_or}
use Rattle.events.specs.declared.event.Action.{Action}
use Rattle.grammar.specs.Recording.{Formula, eq, lt, gt, mark, by, neg, before, once, always, and, or, implies, since}

-- what stands for the events past the end of a run; no formula is asked about there
abbrev pub no_action : Action
no_action = record { thread = 0; kind = 0; subject = 0; value = pos 0 }

-- event n of a run, from 1
abbrev pub action_at : List Action → ℕ → Action
action_at run n = slice_index_or run (n - 1) no_action

-- event n writes x
abbrev pub Writes : List Action → ℕ → ℕ → Type 0
Writes run n x = ((action_at run n).kind ≡ 2) × ((action_at run n).subject ≡ x)

-- v is the value of x after the first n events: that of the latest write of x among them, or else its starting value. Reads have no say.
abbrev pub Current : List ℤ → List Action → ℕ → ℕ → ℤ → Type 0
Current starts run n x v =
    ((m : ℕ) × (1 ≤ m) × (m ≤ n) × Writes run m x × ((action_at run m).value ≡ v) × ((j : ℕ) → m < j → j ≤ n → Writes run j x → ⊥))
    ⊎ (((j : ℕ) → 1 ≤ j → j ≤ n → Writes run j x → ⊥) × (slice_index_or starts x (pos 0) ≡ v))

-- The formula is true after the first n events of the run, 1 ≤ n. `before F`: there is an event ahead of the latest, and F was true after it.
-- `once F`: after some event so far, `always F`: after each, the latest included. `since F G`: G was true after some event, and F after each
-- later one.
abbrev pub Holds : List ℤ → List Action → Formula → ℕ → Type 0
Holds starts run (eq x c) n = (v : ℤ) × Current starts run n x v × (v ≡ c)
Holds starts run (lt x c) n = (v : ℤ) × Current starts run n x v × (v <ℤ c)
Holds starts run (gt x c) n = (v : ℤ) × Current starts run n x v × (c <ℤ v)
Holds starts run (mark k) n = ((action_at run n).kind ≡ 0) × ((action_at run n).subject ≡ k)
Holds starts run (by t) n = (action_at run n).thread ≡ t
Holds starts run (neg f) n = Holds starts run f n → ⊥
Holds starts run (before f) n = (1 < n) × Holds starts run f (n - 1)
Holds starts run (once f) n = (m : ℕ) × (1 ≤ m) × (m ≤ n) × Holds starts run f m
Holds starts run (always f) n = (m : ℕ) → 1 ≤ m → m ≤ n → Holds starts run f m
Holds starts run (and f g) n = Holds starts run f n × Holds starts run g n
Holds starts run (or f g) n = Holds starts run f n ⊎ Holds starts run g n
Holds starts run (implies f g) n = Holds starts run f n → Holds starts run g n
Holds starts run (since f g) n =
    (m : ℕ) × (1 ≤ m) × (m ≤ n) × Holds starts run g m × ((j : ℕ) → m < j → j ≤ n → Holds starts run f j)

-- the subformulas in the order of their words, the formula itself first
abbrev pub subformulas : Formula → List Formula
subformulas (eq x c) = eq x c ∷ []
subformulas (lt x c) = lt x c ∷ []
subformulas (gt x c) = gt x c ∷ []
subformulas (mark k) = mark k ∷ []
subformulas (by t) = by t ∷ []
subformulas (neg f) = neg f ∷ subformulas f
subformulas (before f) = before f ∷ subformulas f
subformulas (once f) = once f ∷ subformulas f
subformulas (always f) = always f ∷ subformulas f
subformulas (and f g) = and f g ∷ (subformulas f ++ subformulas g)
subformulas (or f g) = or f g ∷ (subformulas f ++ subformulas g)
subformulas (implies f g) = implies f g ∷ (subformulas f ++ subformulas g)
subformulas (since f g) = since f g ∷ (subformulas f ++ subformulas g)

-- how many they are
abbrev pub size : Formula → ℕ
size (eq x c) = 1
size (lt x c) = 1
size (gt x c) = 1
size (mark k) = 1
size (by t) = 1
size (neg f) = 1 + size f
size (before f) = 1 + size f
size (once f) = 1 + size f
size (always f) = 1 + size f
size (and f g) = 1 + (size f + size g)
size (or f g) = 1 + (size f + size g)
size (implies f g) = 1 + (size f + size g)
size (since f g) = 1 + (size f + size g)
