-- The least weight is that of a tail that was passed, or no arc. Assumes nothing.
use Prim.Native.Nat.{◌≤◌}
use Rattle.detours.specs.Increases.{LeastOutside}
use Rattle.detours.proofs.increases.least_outside.Given as goal

abbrev pub invariant-loop-x : goal.invariant-loop-x
invariant-loop-x l = (l.x ≤ l.n) × LeastOutside l.m l.inner l.x l.vertex l.least
