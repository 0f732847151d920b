-- The sum is that of the arcs into the vertices below v. Assumes nothing.
use Prim.Native.Nat.{◌≤◌}
use Rattle.first_tree.proofs.AttemptLaws.{Summed}
use Rattle.first_tree.proofs.attempt.tree_total.Given as goal

abbrev pub invariant-loop-v : goal.invariant-loop-v
invariant-loop-v l = (l.v ≤ l.n) × Summed l.n l.root l.m l.parents l.v l.sum
