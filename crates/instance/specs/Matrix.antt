-- The weight matrix that the algorithm works on: only what remains of an instance, or of some of its arcs. Assumes
-- nothing: these are definitions.
use Rattle.std.specs.Prelude.{◌≡◌, Bool, true, ◌&&◌, cond, List, [], ℕ, ◌/◌, ◌%◌, ◌≤◌, ◌<◌, length, get_or}
use Rattle.base.specs.Lists.{tabulate}
use Rattle.instance.specs.Limits.{max_vertices, no_arc, cells}
use Rattle.instance.specs.Instance.{Instance, instance_with, weight_at}
use Rattle.instance.specs.Arborescence.{remaining}

-- the weights of the remaining arcs that pass a test, and no arc elsewhere
unfoldable pub matrix_where : Instance → (keep : (tail head : ℕ) → Bool) → List ℕ
matrix_where s q =
    tabulate cells (λ i. cond (remaining s (i / 32) (i % 32) && q (i / 32) (i % 32)) (weight_at s i) no_arc)

unfoldable pub matrix : Instance → List ℕ
matrix s = matrix_where s (λ t h. true)

-- a matrix as an instance with every arc free, so that its remaining arcs are its arcs; with a budget
abbrev pub matrix_instance : (n root budget : ℕ) → (matrix : List ℕ) → Instance
matrix_instance n r b ws = instance_with n r b ws []

-- the same where no budget matters
unfoldable pub unmarked : (n root : ℕ) → (matrix : List ℕ) → Instance
unmarked n r ws = record { n = n; root = r; budget = 0; weights = ws; marks = [] }

-- every cell holds a weight, or no arc
abbrev pub Weights : (matrix : List ℕ) → Type 0
Weights ws = (i : ℕ) → i < cells → get_or ws i no_arc ≤ no_arc

-- a matrix that can be planned on
pub record MatrixOk (n root : ℕ) (m : List ℕ) : Type 0 where
  pub small : n ≤ max_vertices
  pub root_below : root < n
  pub size : length m ≡ cells
  pub bounded : Weights m
