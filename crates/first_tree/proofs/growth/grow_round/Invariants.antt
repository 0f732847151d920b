-- The vertices from `head` on have been looked at. Assumes nothing.
use Prim.Native.Nat.{◌≤◌}
use Rattle.first_tree.specs.Growth.{Grows}
use Rattle.first_tree.proofs.growth.grow_round.Given as goal

abbrev pub invariant-loop-head : goal.invariant-loop-head
invariant-loop-head l = (l.head ≤ l.search.n) × Grows l.search.n l.search.from.0 l.search.count l.head l.search.n l.initial.tails l.tails l.reached l.more l.initial.parents l.parents
