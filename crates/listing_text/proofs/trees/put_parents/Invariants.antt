-- The loop has written the parents of the vertices that it passed. Assumes nothing.
use mathlib.Core.Path.{◌≡◌}
use Prim.Native.Nat.{◌≤◌}
use lib.ListN.{length}
use Rattle.base.specs.Lists.{join_below}
use Rattle.text.specs.Buffer.{Puts}
use Rattle.listing_text.specs.Trees.{parent_text}
use Rattle.listing_text.proofs.trees.put_parents.Given as goal

abbrev pub invariant-loop-v : goal.invariant-loop-v
invariant-loop-v l =
    Puts (join_below l.v (parent_text l.parents)) l.initial.out l.out l.at l.next × (l.v ≤ l.n) × (length l.out ≡ length l.initial.out)
