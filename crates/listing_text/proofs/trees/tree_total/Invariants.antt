-- The loop has added the arcs into the vertices that it passed. Assumes nothing.
use mathlib.Core.Path.{◌≡◌}
use Prim.Native.Nat.{◌≤◌}
use Rattle.base.specs.Bounded.{sum_below}
use Rattle.listing_text.proofs.TreeLaws.{added}
use Rattle.listing_text.proofs.trees.tree_total.Given as goal

abbrev pub invariant-loop-v : goal.invariant-loop-v
invariant-loop-v l = (l.sum ≡ sum_below l.v (added l.n l.root l.weights l.parents)) × (l.v ≤ l.n)
