-- The first place of a list at which a test holds, and at which a key stands.
use Rattle.std.specs.Prelude.{◌≡◌, ℕ, ◌<◌, Bool, List, length, Some, None, Option, ◌≢◌, slice_index_or, position}

-- the first place at which the test holds
abbrev pub first_of : {R : Type 0} → (R → Bool) → List R → Option ℕ
first_of test xs = position test xs

-- no place of the list below n has the key
abbrev pub NoneBelow : {R K : Type 0} → (R → K) → K → List R → ℕ → Type 0
NoneBelow {R} keyed key xs n = (k : ℕ) (d : R) → k < n → keyed (slice_index_or xs k d) ≢ key

-- In words: at the place that is found the key stands, and at no earlier one; where none is found, it stands nowhere.
abbrev pub StandsFirst : {R K : Type 0} → (R → K) → K → List R → Option ℕ → Type 0
StandsFirst {R} keyed key xs (Some i) = (i < length xs) × ((d : R) → keyed (slice_index_or xs i d) ≡ key) × NoneBelow keyed key xs i
StandsFirst keyed key xs None = NoneBelow keyed key xs (length xs)
