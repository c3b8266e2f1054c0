use Rattle.std.proofs.Common.{◌≡◌, ℕ, ◌+◌, ◌-◌, ◌≤◌, Bool, length, drop}
use Rattle.text.specs.Tokens.{Tells, run}
use Rattle.text.proofs.reader.Reader.pass.Given as goal

abbrev pub invariant-loop-self : goal.invariant-loop-self
invariant-loop-self g l =
    (l.self.text.now ≡ l.initial.self.text.now)
    × (l.initial.self.at ≤ l.self.at)
    × ((kind : ℕ → Bool) → Tells (goal.F-post g) l.is kind → l.self.at + run kind (drop l.self.at l.self.text.now) ≡ l.initial.self.at + run kind (drop l.initial.self.at l.initial.self.text.now))

abbrev pub decreases-loop-self : goal.decreases-loop-self
decreases-loop-self g l = length l.self.text.now - l.self.at
