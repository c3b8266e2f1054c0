-- What a monitor means, and what it says of a run.
use Rattle.std.specs.Prelude.{◌≡◌, ℕ, ◌≤◌, Bool, true, List, length, take, fold}
use Rattle.events.specs.declared.event.Action.{Action}

-- The code that a run begins with, the code after an action, and which codes are bad. The law: a bad code stays bad, whatever comes.
pub record Meaning : Type 0 where
  pub start : ℕ
  pub step : ℕ → Action → ℕ
  pub bad : ℕ → Bool
  pub stays : (code : ℕ) (a : Action) → bad code ≡ true → bad (step code a) ≡ true

-- the code after a run: the start code stepped action by action
abbrev pub ran : Meaning → List Action → ℕ
ran m actions = fold m.step m.start actions

-- the start code or any later one is bad
abbrev pub Violates : Meaning → List Action → Type 0
Violates m actions = (k : ℕ) × (k ≤ length actions) × (m.bad (ran m (take k actions)) ≡ true)
