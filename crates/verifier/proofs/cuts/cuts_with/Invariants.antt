-- `cuts_with` keeps the cuts that have the vertex, one behind the other. Assumes nothing.
use Rattle.verifier.proofs.SelectedLaws.{Selecting}
use Rattle.verifier.proofs.cuts.cuts_with.Given as goal

abbrev pub invariant-loop-set : goal.invariant-loop-set
invariant-loop-set l = Selecting l.cuts l.vertex l.selected l.count l.set-index
