-- The arcs from the tails that were passed are judged. Assumes nothing.
use Prim.Native.Nat.{◌≤◌}
use Rattle.instance.specs.Matrix.{matrix_instance}
use Rattle.usable.specs.Judge.{JudgedHead}
use Rattle.usable.proofs.judge.judge_head.Given as goal

abbrev pub invariant-loop-t : goal.invariant-loop-t
invariant-loop-t l =
    (l.t ≤ l.plan.n) × JudgedHead (matrix_instance l.plan.n l.plan.root l.plan.limit l.plan.m.now) l.t l.head l.initial.used l.used
