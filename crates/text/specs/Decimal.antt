-- Numbers in decimal, as lists of bytes. Assumes nothing: these are definitions.
use Rattle.std.specs.Prelude.{cond, List, [], ◌∷◌, ◌++◌, ℕ, zero, suc, ◌+◌, ◌*◌, ◌-◌, ◌/◌, ◌%◌, ltb}

-- 48 is the code of 0
abbrev pub digit : (d : ℕ) → ℕ
digit d = 48 + d

-- v in decimal without leading zeros, where so many digits are enough: the digits of v / 10 unless that is 0, and the
-- last digit
unfoldable pub decimal_in : (digits v : ℕ) → List ℕ
decimal_in zero v = []
decimal_in (suc k) v = cond (ltb v 10) [] (decimal_in k (v / 10)) ++ (digit (v % 10) ∷ [])

-- ten are enough for a number of 32 bits
unfoldable pub decimal : (v : ℕ) → List ℕ
decimal v = decimal_in 10 v

-- the number that digits show, after those that show a
unfoldable pub value_after : (a : ℕ) → (digits : List ℕ) → ℕ
value_after a [] = a
value_after a (d ∷ ds) = value_after (10 * a + (d - 48)) ds
