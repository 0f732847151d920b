-- `edmonds::own_labels` meets its contract. Assumes nothing.
use Prim.Native.Nat.{◌≤◌}
use Rattle.instance.specs.Limits.{max_vertices}
use Rattle.base.proofs.OverwriteLaws.{Overwritten}
use Rattle.edmonds.proofs.own_labels.Given as goal

abbrev pub invariant-loop-i : goal.invariant-loop-i
invariant-loop-i l = (l.i ≤ max_vertices) × Overwritten max_vertices l.initial.label l.label (λ v. v) l.i
