-- The arcs into the vertices that were passed are added. Assumes nothing.
use Prim.Native.Nat.{◌≤◌}
use lib.ListN.{take}
use Rattle.usable.specs.Table.{TreeAdded}
use Rattle.usable.proofs.table.add_tree.Given as goal

abbrev pub invariant-loop-v : goal.invariant-loop-v
invariant-loop-v l = (l.v ≤ l.n) × TreeAdded (take l.n l.parents) l.v l.root l.initial.used l.used
