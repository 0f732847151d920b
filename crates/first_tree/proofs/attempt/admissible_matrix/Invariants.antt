-- The cells below i hold what they should. Assumes nothing.
use Prim.Native.Nat.{◌≤◌}
use Rattle.instance.specs.Limits.{cells}
use Rattle.first_tree.proofs.AttemptLaws.{AdmissibleCells}
use Rattle.first_tree.proofs.attempt.admissible_matrix.Given as goal

abbrev pub invariant-loop-i : goal.invariant-loop-i
invariant-loop-i l = (l.i ≤ cells) × AdmissibleCells l.m l.tails l.n l.root l.w l.i
