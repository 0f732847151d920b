-- `expansion::own_parents` meets its contract. The loop has filled the parents below v. Assumes nothing.
use Prim.Native.Nat.{◌≤◌}
use Rattle.instance.specs.Limits.{max_vertices}
use Rattle.contraction.specs.Groups.{own_arcs}
use Rattle.contraction.specs.Cells.{nth}
use Rattle.base.proofs.OverwriteLaws.{Overwritten}
use Rattle.expansion.proofs.own_parents.Given as goal

abbrev pub invariant-loop-v : goal.invariant-loop-v
invariant-loop-v l = (l.v ≤ l.n) × Overwritten max_vertices l.initial.out l.out (own_arcs l.r (nth l.label) (nth l.tails) (nth l.heads)) l.v
