-- `is_covered` counts the weight down: what the cuts that are left charge is held against what is left. Assumes
-- nothing.
use Rattle.verifier.proofs.CutsLaws.{Covering}
use Rattle.verifier.proofs.cuts.is_covered.Given as goal

abbrev pub invariant-loop-set : goal.invariant-loop-set
invariant-loop-set l = Covering l.tail l.head l.cuts l.weight l.set-index l.room
