-- The sets of the heads below `head` are there. Assumes nothing.
use Prim.Native.Nat.{◌≤◌}
use lib.ListN.{replicate}
use Rattle.base.proofs.OverwriteLaws.{Overwritten}
use Rattle.instance.specs.Limits.{max_vertices}
use Rattle.first_tree.specs.Tails.{tight_set}
use Rattle.first_tree.proofs.tails.tight_tails.Given as goal

abbrev pub invariant-loop-head : goal.invariant-loop-head
invariant-loop-head l =
    (l.head ≤ l.n) × Overwritten max_vertices (replicate max_vertices 0) l.tails (tight_set l.m l.reduced l.n l.root l.n) l.head
