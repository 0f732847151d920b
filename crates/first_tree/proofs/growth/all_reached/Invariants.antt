-- The vertices from v on are reached. Assumes nothing.
use mathlib.Core.Path.{◌≡◌}
use Prim.Native.Nat.{◌≤◌}
use Rattle.base.specs.Bounded.{all_below}
use Rattle.instance.specs.Cuts.{inside}
use Rattle.first_tree.proofs.growth.all_reached.Given as goal

abbrev pub invariant-loop-v : goal.invariant-loop-v
invariant-loop-v l = (l.v ≤ l.n) × (all_below l.n (inside l.reached) ≡ all_below l.v (inside l.reached))
