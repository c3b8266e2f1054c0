-- Systems that agree where it matters.
use Rattle.std.specs.Prelude.{◌≡◌, ℕ, ◌<◌, List}
use Rattle.explore.specs.System.{System, Goes}

-- S has the first node and the labels of T, and leads on as T does from every node that T can reach.
pub record Agree {N : Type 0} (S T : System N) : Type 0 where
  pub first : S.first ≡ T.first
  pub labels : S.labels ≡ T.labels
  pub next : (p : List ℕ) (x : N) (a : ℕ) → Goes T T.first p x → a < T.labels → S.next x a ≡ T.next x a
