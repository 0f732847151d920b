-- Places of a list of n by n, row by row: where a pair's place is, and a loop that goes over all places with their rows
-- and columns beside them, so that it divides nothing. Assumes nothing.
use mathlib.Core.Path.{◌≡◌, ap, ◌∙◌}
use mathlib.Core.Logic.{◌≢◌}
use Prim.Native.Nat.{ℕ, ◌+◌, ◌*◌, ◌/◌, ◌%◌, ◌≤◌, ◌<◌}
use native.Mathlib.Omega.{arith}
use native.Mathlib.Nat.{suc-mul, zero-mul}
use native.Mathlib.Numerals.{add-one}
use lib.Arith.{digits_lt}
use Rattle.base.proofs.GridLaws.{square_most, grid_row, grid_at_row, grid_at_column}
use Rattle.instance.specs.Limits.{max_vertices}
use Rattle.prim.specs.Place.{Placed}

pub record Place (n i j : ℕ) : Type 0 where
  pub inside : i * n + j < n * n
  pub square : n * n ≤ 1024

pub place : (n i j : ℕ) → n ≤ max_vertices → i < n → j < n → Place n i j
place n i j small ib jb = record { inside = digits_lt ib jb; square = square_most n max_vertices small }

pub placed_first : (n : ℕ) → 0 < n → Placed n 0 0 0
placed_first n l = record { is = let z = zero-mul n in omega arith; column = l }

-- where there is a place at all
pub first_placed : (n : ℕ) → 0 < n * n → Placed n 0 0 0
first_placed n l = placed_first n (let r = grid_row n 0 l in omega arith)

module _ (n k i j : ℕ) (p : Placed n k i j) where
  -- the next row, and the next column
  pub placed_down : j + 1 ≡ n → Placed n (k + 1) (i + 1) 0
  placed_down e =
      let a = p.is in
      let b : (i + 1) * n ≡ i * n + n = ap (λ (x : ℕ). x * n) (add-one i) ∙ suc-mul i n in
      record { is = omega arith; column = omega arith }

  pub placed_on : j + 1 ≢ n → Placed n (k + 1) i (j + 1)
  placed_on d = let a = p.is in let c = p.column in record { is = omega arith; column = less c d }
    where
      less : j < n → j + 1 ≢ n → j + 1 < n
      less c d = omega arith

  pub row_is : k / n ≡ i
  row_is = ap (λ (x : ℕ). x / n) p.is ∙ grid_at_row n i j p.column

  pub column_is : k % n ≡ j
  column_is = ap (λ (x : ℕ). x % n) p.is ∙ grid_at_column n i j p.column

  pub row_below : k < n * n → i < n
  row_below l = let r = grid_row n k l in let e = row_is in omega arith
