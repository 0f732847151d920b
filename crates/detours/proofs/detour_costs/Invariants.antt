-- One arc is exchanged for a tail that is no descendant of the head, two for the others. Assumes nothing.
use mathlib.Core.Path.{◌≡◌}
use Prim.Native.Nat.{◌≤◌}
use lib.ListN.{length, take}
use Rattle.instance.specs.Limits.{max_vertices}
use Rattle.instance.specs.Matrix.{unmarked}
use Rattle.detours.specs.Detours.{Detours}
use Rattle.detours.proofs.detour_costs.Given as goal

abbrev pub invariant-loop-t : goal.invariant-loop-t
invariant-loop-t l = (l.t ≤ l.n) × (length l.table ≡ max_vertices) × Detours (unmarked l.n l.root l.m) (take l.n l.parents) l.head l.t l.table
