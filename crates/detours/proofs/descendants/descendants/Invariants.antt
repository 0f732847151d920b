-- The table is right for the vertices that were passed. Assumes nothing.
use mathlib.Core.Path.{◌≡◌}
use Prim.Native.Nat.{◌≤◌}
use lib.ListN.{length, take}
use Rattle.instance.specs.Limits.{max_vertices}
use Rattle.detours.specs.Descendants.{Descendants}
use Rattle.detours.proofs.descendants.descendants.Given as goal

abbrev pub invariant-loop-v : goal.invariant-loop-v
invariant-loop-v l = (l.v ≤ l.n) × (length l.table ≡ max_vertices) × Descendants (take l.n l.parents) l.v l.head l.table
