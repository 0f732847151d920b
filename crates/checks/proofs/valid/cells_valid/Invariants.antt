-- `cells_valid` judges every cell, from the last down. The invariant: the cells below k decide. Assumes nothing.
use mathlib.Core.Path.{◌≡◌}
use Prim.Native.Nat.{◌≤◌}
use Rattle.base.specs.Bounded.{all_below}
use Rattle.instance.specs.Valid.{cell_valid}
use Rattle.instance.specs.Instance.{without_budget}
use Rattle.checks.proofs.valid.cells_valid.Given as goal

abbrev pub invariant-loop-k : goal.invariant-loop-k
invariant-loop-k l =
    (l.k ≤ 1024)
    × (all_below 1024 (cell_valid (without_budget l.n l.root l.weights l.marks)) ≡ all_below l.k (cell_valid (without_budget l.n l.root l.weights l.marks)))
