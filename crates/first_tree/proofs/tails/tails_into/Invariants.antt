-- `tails_into` has gathered the tails below t. Assumes nothing.
use mathlib.Core.Path.{◌≡◌}
use Prim.Native.Nat.{◌≤◌}
use Rattle.first_tree.specs.Tails.{tight_set}
use Rattle.first_tree.proofs.tails.tails_into.Given as goal

abbrev pub invariant-loop-t : goal.invariant-loop-t
invariant-loop-t l = (l.t ≤ l.n) × (l.set ≡ tight_set l.m l.reduced l.n l.root l.t l.head)
