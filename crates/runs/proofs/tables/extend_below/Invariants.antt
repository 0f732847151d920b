-- The rows that were passed have the parent's column in the vertex's, and then the vertex its own 1. Assumes nothing.
use Prim.Native.Nat.{◌≤◌}
use Rattle.runs.proofs.TablesLaws.{Column}
use Rattle.runs.proofs.tables.extend_below.Given as goal

abbrev pub invariant-loop-y : goal.invariant-loop-y
invariant-loop-y l = (l.y ≤ l.n) × Column l.v l.tail l.y l.initial.below l.below
