-- The sum is that of the edges of the vertices below v. Assumes nothing.
use mathlib.Core.Path.{◌≡◌}
use Prim.Native.Nat.{◌≤◌}
use Rattle.base.specs.Bounded.{sum_below}
use Rattle.prim.specs.Tree.{edge_cost}
use Rattle.prim.proofs.tree.total_of.Given as goal

abbrev pub invariant-loop-v : goal.invariant-loop-v
invariant-loop-v l = (1 ≤ l.v) × (l.v ≤ l.n) × (l.sum ≡ sum_below l.v (edge_cost l.weights l.parents l.n))
