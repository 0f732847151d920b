-- Any place up to the count will do. Assumes nothing.
use Prim.Native.Nat.{◌≤◌}
use Rattle.first_tree.proofs.fixing.first_group.Given as goal

abbrev pub invariant-loop-k : goal.invariant-loop-k
invariant-loop-k l = l.k ≤ l.count
