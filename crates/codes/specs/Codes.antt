-- Sets of numbers as codes: bit s of the code says whether s is of the set.
use Rattle.std.specs.Prelude.{ℕ, zero, suc, ◌+◌, ◌*◌, ◌^◌, Bool, false, cond, ◌||◌, ◌==◌, nat_lt}
use Rattle.std.specs.Int.{bit_at}

-- bit s of n; a number below 2 ^ 64 has none of 64 or more
unfoldable pub bit_of : ℕ → ℕ → Bool
bit_of n s = bit_at n s == 1

-- the number below 2 ^ 64 with bit s alone, or 0 if there is none
unfoldable pub only_bit : ℕ → ℕ
only_bit s = cond (nat_lt s 64) (2 ^ s) 0

-- the code of those below n that pass
unfoldable pub code_of : ℕ → (ℕ → Bool) → ℕ
code_of zero p = 0
code_of (suc n) p = cond (p n) 1 0 * 2 ^ n + code_of n p

-- whether any below n passes
unfoldable pub some : ℕ → (ℕ → Bool) → Bool
some zero p = false
some (suc n) p = p n || some n p
