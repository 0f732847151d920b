-- A place of a list of n by n, row by row, with its row and its column. Assumes nothing: these are definitions.
use Rattle.std.specs.Prelude.{◌≡◌, ℕ, ◌+◌, ◌*◌, ◌<◌}

-- k is the place of row i and column j
pub record Placed (n k i j : ℕ) : Type 0 where
  pub is : k ≡ i * n + j
  pub column : j < n
