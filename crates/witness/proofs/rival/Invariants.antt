-- The tails are passed upwards. The invariant: those from here on decide. Assumes nothing.
use mathlib.Core.Path.{◌≡◌}
use Prim.Native.Nat.{◌-◌, ◌≤◌}
use Rattle.instance.specs.Instance.{without_budget}
use Rattle.witness.specs.Witness.{least_from, is_rival}
use Rattle.witness.specs.Witness as definitions
use Rattle.witness.proofs.rival.Given as goal

abbrev pub invariant-loop-other : goal.invariant-loop-other
invariant-loop-other l =
    (l.other ≤ l.n)
    × (definitions.rival (without_budget l.n l.root l.weights l.marks) l.tail l.head
    ≡ least_from (l.n - l.other) l.other (is_rival (without_budget l.n l.root l.weights l.marks) l.tail l.head))
