-- `remaining::remaining_matrix` meets its contract: the cells that were passed are those of the matrix. Assumes
-- nothing.
use Prim.Native.Nat.{◌≤◌}
use Rattle.base.proofs.OverwriteLaws.{Overwritten}
use Rattle.instance.specs.Limits.{cells}
use Rattle.instance.specs.Instance.{without_budget}
use Rattle.instance.proofs.MatrixLaws.{matrix_cell}
use Rattle.remaining.proofs.remaining_matrix.Given as goal

abbrev pub invariant-loop-i : goal.invariant-loop-i
invariant-loop-i l = (l.i ≤ cells) × Overwritten cells l.initial.w l.w (matrix_cell (without_budget l.n l.root l.weights l.marks)) l.i
