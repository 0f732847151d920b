-- Tests, sums and counts over every number below a bound, the largest first. Assumes nothing: these are definitions.
use Rattle.std.specs.Prelude.{Bool, true, false, ◌&&◌, ◌||◌, cond, ℕ, zero, suc, ◌+◌}

-- P holds of every number below the bound
unfoldable pub all_below : (bound : ℕ) → (P : ℕ → Bool) → Bool
all_below zero P = true
all_below (suc k) P = P k && all_below k P

-- P holds of some number below the bound
unfoldable pub any_below : (bound : ℕ) → (P : ℕ → Bool) → Bool
any_below zero P = false
any_below (suc k) P = P k || any_below k P

-- the sum of f over the numbers below the bound
unfoldable pub sum_below : (bound : ℕ) → (f : ℕ → ℕ) → ℕ
sum_below zero f = 0
sum_below (suc k) f = f k + sum_below k f

-- how many numbers below the bound pass P
unfoldable pub count_below : (bound : ℕ) → (P : ℕ → Bool) → ℕ
count_below k P = sum_below k (λ v. cond (P v) 1 0)
