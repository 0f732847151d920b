-- The table is right for the vertices that were passed. Assumes nothing.
use mathlib.Core.Path.{◌≡◌}
use Prim.Native.Nat.{◌≤◌}
use lib.ListN.{length, take}
use Rattle.instance.specs.Limits.{max_vertices}
use Rattle.detours.specs.Increases.{Increases}
use Rattle.detours.proofs.increases.increases.Given as goal

abbrev pub invariant-loop-k : goal.invariant-loop-k
invariant-loop-k l = (l.k ≤ l.n) × (length l.table ≡ max_vertices) × Increases l.m (take l.n l.parents) l.inner l.n l.k l.table
