-- An arborescence on a weight matrix, as a program holds it. Assumes nothing: these are definitions.
use Rattle.std.specs.Prelude.{◌≡◌, true, List, ℕ, length, take}
use Rattle.instance.specs.Limits.{max_vertices}
use Rattle.instance.specs.Arborescence.{is_arborescence}
use Rattle.instance.specs.Matrix.{unmarked, MatrixOk}

-- the parents stand in the first n of 32 places
pub record MatrixTree (n root : ℕ) (m parents : List ℕ) : Type 0 where
  pub matrix_ok : MatrixOk n root m
  pub places : length parents ≡ max_vertices
  pub arborescence : is_arborescence (unmarked n root m) (take n parents) ≡ true
