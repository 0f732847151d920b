-- `edmonds::plan_matrix` meets its contract. The loop has charged the vertices below v. Assumes nothing.
use Prim.Native.Nat.{◌≤◌}
use Rattle.edmonds.proofs.FirstChargeLaws.{Begun}
use Rattle.edmonds.proofs.plan_matrix.Given as goal

abbrev pub invariant-loop-v : goal.invariant-loop-v
invariant-loop-v l = (l.v ≤ l.n) × Begun l.initial.w l.w l.label l.tails l.heads l.n l.r l.initial.cuts l.cuts l.next.0 l.v
