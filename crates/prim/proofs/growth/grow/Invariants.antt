-- The tree so far is part of a cheapest one; each turn settles one vertex more. Assumes nothing.
use mathlib.Core.Path.{◌≡◌}
use Prim.Native.Nat.{◌-◌}
use Rattle.base.specs.Bounded.{count_below}
use Rattle.prim.specs.Growth.{is_settled}
use Rattle.prim.proofs.GrowthLaws.{Growing}
use Rattle.prim.proofs.growth.grow.Given as goal

abbrev pub invariant-loop-v : goal.invariant-loop-v
invariant-loop-v l = (l.tree.n ≡ l.n) × Growing l.keys l.n l.tree.settled l.tree.parents

abbrev pub decreases-loop-v : goal.decreases-loop-v
decreases-loop-v l = l.n - count_below l.n (is_settled l.tree.settled)
