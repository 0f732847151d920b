-- `test_edmonds::put_cycles` meets its contract. Assumes nothing.
use mathlib.Core.Path.{◌≡◌}
use Prim.Native.Nat.{◌-◌, ◌≤◌}
use lib.ListN.{length}
use Rattle.instance.specs.Limits.{cells}
use Rattle.instance.specs.Matrix.{Weights}
use Rattle.test_edmonds.proofs.put_cycles.Given as goal

abbrev pub invariant-loop-v : goal.invariant-loop-v
invariant-loop-v l = (3 ≤ l.v) × (l.v ≤ 32) × (length l.w ≡ cells) × Weights l.w

abbrev pub decreases-loop-v : goal.decreases-loop-v
decreases-loop-v l = 32 - l.v
