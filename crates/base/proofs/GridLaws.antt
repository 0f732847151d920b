-- A list of n times n places, row by row: place k is in row k / n and column k % n. Assumes nothing.
use mathlib.Core.Path.{◌≡◌, ap, ◌∙◌}
use Prim.Native.Nat.{ℕ, zero, suc, ◌+◌, ◌*◌, ◌/◌, ◌%◌, ◌≤◌, ◌<◌}
use native.Mathlib.Omega.{arith}
use native.Mathlib.Nat.{mul-le-mul, div-lt_iff_lt-mul, mod-lt, zero-mul, add_comm, mul-add-div_right, div-eq_of_lt, mod-eq_of_lt, add-mul-mod_self_right, add-zero, suc-mul, mul-le-mul_right}

pub square_most : (n most : ℕ) → n ≤ most → n * n ≤ most * most
square_most n most h = mul-le-mul h h

module _ (n k : ℕ) (l : k < n * n) where
  some : (j : ℕ) → k < j * j → 0 < j
  some zero m = absurd (omega (arith, zero-mul 0))
  some (suc j) m = omega arith

  pub grid_some : 0 < n
  grid_some = some n l

  pub grid_row : k / n < n
  grid_row = (div-lt_iff_lt-mul grid_some).1 l

  pub grid_column : k % n < n
  grid_column = mod-lt k grid_some

-- the place of a row and a column
module _ (n row column : ℕ) (h : column < n) where
  pub grid_at_row : (row * n + column) / n ≡ row
  grid_at_row = mul-add-div_right (omega arith) row column ∙ ap (λ (k : ℕ). row + k) (div-eq_of_lt h) ∙ add-zero row

  pub grid_at_column : (row * n + column) % n ≡ column
  grid_at_column = ap (λ (k : ℕ). k % n) (add_comm (row * n) column) ∙ add-mul-mod_self_right column row n ∙ mod-eq_of_lt h

-- a row ends where the next begins
pub grid_in : (n row later : ℕ) → row < later → row * n + n ≤ later * n
grid_in n row later h = let s : suc row * n ≤ later * n = mul-le-mul_right n (omega arith) in omega (arith, suc-mul row n)
