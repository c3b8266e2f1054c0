-- Nodes with labelled steps between them.
use Rattle.std.specs.Prelude.{◌≡◌, ℕ, ◌<◌, List, [], ◌∷◌, Some, Option}

-- A system: the node where every path begins; the labels, which are the numbers below `labels`; and the node that a label leads to from a
-- node, if it leads anywhere.
pub record System (N : Type 0) : Type 0 where
  pub first : N
  pub labels : ℕ
  pub next : N → ℕ → Option N

-- label a leads from n to m
abbrev pub Steps : {N : Type 0} → System N → N → ℕ → N → Type 0
Steps S n a m = (a < S.labels) × (S.next n a ≡ Some m)

-- the labels p, one after the other, lead from n to m
pub data Goes {N : Type 0} (S : System N) : N → List ℕ → N → Type 0 where
  here : {n : N} → Goes S n [] n
  along : {n m l : N} {a : ℕ} {p : List ℕ} → Steps S n a m → Goes S m p l → Goes S n (a ∷ p) l
