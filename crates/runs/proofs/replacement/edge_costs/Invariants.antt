-- The costs of the vertices that were passed. Assumes nothing.
use mathlib.Core.Path.{◌≡◌}
use Prim.Native.Nat.{◌≤◌}
use lib.ListN.{length, take}
use Rattle.instance.specs.Limits.{max_vertices}
use Rattle.runs.specs.Replacement.{Costs}
use Rattle.runs.proofs.replacement.edge_costs.Given as goal

abbrev pub invariant-loop-v : goal.invariant-loop-v
invariant-loop-v l = (l.v ≤ l.tree.n) × (length l.costs ≡ max_vertices) × Costs l.tree.keys.now l.tree.n (take l.tree.n l.tree.parents.now) l.v l.costs
