-- The pin sums up the pinned tails that were passed. Assumes nothing.
use Prim.Native.Nat.{◌≤◌}
use Rattle.instance.specs.Instance.{without_budget}
use Rattle.remaining.specs.Pins.{Pins}
use Rattle.remaining.proofs.pins.pins_into.Given as goal

abbrev pub invariant-loop-g : goal.invariant-loop-g
invariant-loop-g l = (l.g ≤ l.n) × Pins (without_budget l.n l.root l.weights l.marks) l.head l.g l.pin
