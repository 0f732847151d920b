-- Of the vertices that were passed, those that are done have their two cells written. Assumes nothing.
use Prim.Native.Nat.{◌≤◌}
use Rattle.runs.specs.Tables.{ExtendsBetween}
use Rattle.runs.proofs.tables.extend_between.Given as goal

abbrev pub invariant-loop-x : goal.invariant-loop-x
invariant-loop-x l = (l.x ≤ l.n) × ExtendsBetween l.done l.v l.tail l.key l.x l.initial.between l.between
