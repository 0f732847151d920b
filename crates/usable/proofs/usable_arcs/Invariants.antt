-- The tree is added, and the arcs into the heads that were passed are judged. Assumes nothing.
use Prim.Native.Nat.{◌≤◌}
use Rattle.instance.specs.Matrix.{matrix_instance}
use Rattle.usable.specs.Judge.{JudgedAll}
use Rattle.usable.proofs.usable_arcs.Given as goal

abbrev pub invariant-loop-head : goal.invariant-loop-head
invariant-loop-head l =
    (l.head ≤ l.plan.n) × JudgedAll (matrix_instance l.plan.n l.plan.root l.plan.limit l.plan.m.now) l.head l.used
