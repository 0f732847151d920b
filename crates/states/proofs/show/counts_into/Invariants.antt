-- The counts are right for the heads that were passed. Assumes nothing.
use mathlib.Core.Path.{◌≡◌}
use Prim.Native.Nat.{◌≤◌}
use lib.ListN.{length}
use Rattle.instance.specs.Limits.{max_vertices}
use Rattle.states.specs.Show.{Counts}
use Rattle.states.proofs.show.counts_into.Given as goal

abbrev pub invariant-loop-head : goal.invariant-loop-head
invariant-loop-head l = (l.head ≤ l.n) × (length l.counts ≡ max_vertices) × Counts l.used l.n l.head l.counts
