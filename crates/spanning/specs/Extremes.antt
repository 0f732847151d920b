-- The least and the greatest of some numbers. Assumes nothing: these are definitions.
use Rattle.std.specs.Prelude.{ℕ, zero, suc, min, max}

-- the least of f below the bound, and of one number more
unfoldable pub least_below : (most bound : ℕ) → (f : ℕ → ℕ) → ℕ
least_below m zero f = m
least_below m (suc k) f = min (f k) (least_below m k f)

-- the greatest of f below the bound, or 0
unfoldable pub greatest_below : (bound : ℕ) → (f : ℕ → ℕ) → ℕ
greatest_below zero f = 0
greatest_below (suc k) f = max (f k) (greatest_below k f)
