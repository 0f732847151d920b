-- `are_cuts` judges the sets one after another: those that are left decide. Assumes nothing.
use Rattle.instance.specs.Matrix.{unmarked}
use Rattle.verifier.proofs.CutsLaws.{Judging}
use Rattle.verifier.proofs.cuts.are_cuts.Given as goal

abbrev pub invariant-loop-set : goal.invariant-loop-set
invariant-loop-set l = Judging (unmarked l.arcs.n l.arcs.root l.arcs.weights.now) l.cuts l.set-index
