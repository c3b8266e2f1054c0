-- What is proved of listings, for every type of nodes.
use Rattle.std.specs.Prelude.{◌≡◌, ℕ, Bool, List, length, take, nat_le}
use Rattle.explore.specs.System.{System}
use Rattle.explore.specs.Rows.{Row}
use Rattle.explore.specs.Listing.{Listing, Holds}
use Rattle.explore.specs.Paths.{Reaches}
use Rattle.explore.specs.Levels.{Levelled, Tells, Ordered}
use Rattle.explore.specs.Rounds.{computed}

-- a system has one listing at most
abbrev pub ListingIsOne : Type 0 → Type 0
ListingIsOne N = (S : System N) (xs ys : List (Row N)) → Listing S xs → Listing S ys → xs ≡ ys

-- a system in levels has a listing, which can be computed
abbrev pub ListingExists : Type 0 → Type 0
ListingExists N = (S : System N) (same : N → N → Bool) (top : ℕ) → Levelled S top → Tells same → Listing S (computed S same top)

-- a listing has exactly the nodes that can be reached, by their first paths
abbrev pub ListingReaches : Type 0 → Type 0
ListingReaches N = (S : System N) (rows : List (Row N)) → Listing S rows → Reaches S rows

-- a room for c rows holds the first c rows of the listing, and tells whether these are all
abbrev pub RoomHoldsFirst : Type 0 → Type 0
RoomHoldsFirst N =
    (S : System N) (c : ℕ) (rows all : List (Row N)) (complete : Bool) → Listing S all → Holds S c rows complete →
    (rows ≡ take c all) × (complete ≡ nat_le (length all) c)

-- in levels, the rows that a room holds stand in the order of their least paths
abbrev pub RowsAreOrdered : Type 0 → Type 0
RowsAreOrdered N =
    (S : System N) (same : N → N → Bool) (top : ℕ) (v : Levelled S top) → Tells same →
    (c : ℕ) (rows : List (Row N)) (complete : Bool) → Holds S c rows complete → Ordered S v.level rows
