-- Lists read at a place that may lie past the end.
use Rattle.std.proofs.Common.{◌≡◌, ℕ, zero, suc, ◌<◌, List, [], ◌∷◌, ◌++◌, length, Some, refl, ap₂, arith}
use Rattle.std.specs.List.{slice_get}

pub nth_has : {X : Type 0} (xs : List X) (k : ℕ) → k < length xs → (x : X) × (slice_get xs k ≡ Some x)
nth_has [] k l = absurd (omega arith)
nth_has (y ∷ ys) zero l = (y, refl)
nth_has (y ∷ ys) (suc k) l = nth_has ys k (omega arith)

pub nth_left : {X : Type 0} (xs ys : List X) (k : ℕ) → k < length xs → slice_get (xs ++ ys) k ≡ slice_get xs k
nth_left [] ys k l = absurd (omega arith)
nth_left (x ∷ xs) ys zero l = refl
nth_left (x ∷ xs) ys (suc k) l = nth_left xs ys k (omega arith)

pub nth_last : {X : Type 0} (xs : List X) (x : X) → slice_get (xs ++ x ∷ []) (length xs) ≡ Some x
nth_last [] x = refl
nth_last (y ∷ ys) x = nth_last ys x

-- two lists of one length that have the same at each place
pub same_places : {X : Type 0} (xs ys : List X) → length xs ≡ length ys
    → ((k : ℕ) (x y : X) → slice_get xs k ≡ Some x → slice_get ys k ≡ Some y → x ≡ y) → xs ≡ ys
same_places [] [] n h = refl
same_places [] (y ∷ ys) n h = absurd (omega arith)
same_places (x ∷ xs) [] n h = absurd (omega arith)
same_places {X} (x ∷ xs) (y ∷ ys) n h =
    ap₂ (λ (a : X) (l : List X). a ∷ l) (h 0 x y refl refl) (same_places xs ys (omega arith) (λ k. h (suc k)))
