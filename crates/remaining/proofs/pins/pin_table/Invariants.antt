-- The pins into each head that was passed stand in the table. Assumes nothing.
use mathlib.Core.Path.{◌≡◌}
use Prim.Native.Nat.{◌≤◌}
use lib.ListN.{length}
use Rattle.instance.specs.Limits.{max_vertices}
use Rattle.instance.specs.Instance.{without_budget}
use Rattle.remaining.specs.Pins.{PinTable}
use Rattle.remaining.proofs.pins.pin_table.Given as goal

abbrev pub invariant-loop-head : goal.invariant-loop-head
invariant-loop-head l =
    (l.head ≤ l.n) × (length l.table ≡ max_vertices) × PinTable (without_budget l.n l.root l.weights l.marks) l.head l.table
