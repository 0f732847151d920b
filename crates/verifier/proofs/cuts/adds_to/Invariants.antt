-- `adds_to` counts the total down: the values of the cuts that are left are held against what is left. Assumes
-- nothing.
use Rattle.verifier.proofs.CutsLaws.{Adding}
use Rattle.verifier.proofs.cuts.adds_to.Given as goal

abbrev pub invariant-loop-value : goal.invariant-loop-value
invariant-loop-value l = Adding l.cuts l.total l.value-index l.rest
