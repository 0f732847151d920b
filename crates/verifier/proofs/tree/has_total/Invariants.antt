-- `has_total` counts the total down: the arcs into the vertices below v are held against what is left. Assumes nothing.
use Rattle.verifier.proofs.TreeLaws.{Paying}
use Rattle.verifier.proofs.tree.has_total.Given as goal

abbrev pub invariant-loop-v : goal.invariant-loop-v
invariant-loop-v l = Paying l.arcs.n l.arcs.root l.arcs.weights.now l.parents l.total l.v l.rest
