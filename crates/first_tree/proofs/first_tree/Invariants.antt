-- The vertices below v are settled. Assumes nothing.
use Prim.Native.Nat.{◌≤◌}
use Rattle.first_tree.specs.Search.{Settled}
use Rattle.first_tree.proofs.first_tree.Given as goal

abbrev pub invariant-loop-v : goal.invariant-loop-v
invariant-loop-v l = (l.v ≤ l.n) × Settled l.m l.n l.root l.total l.v l.tails l.first
