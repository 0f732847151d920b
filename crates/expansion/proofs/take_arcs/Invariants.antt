-- `expansion::take_arcs` meets its contract. The loop has expanded the vertices below u. Assumes nothing.
use Prim.Native.Nat.{◌≤◌}
use Rattle.instance.specs.Limits.{max_vertices}
use Rattle.contraction.specs.Groups.{expanded}
use Rattle.contraction.specs.Cells.{nth as place}
use Rattle.contraction.specs.Search.{on_cycle}
use Rattle.base.proofs.OverwriteLaws.{Overwritten}
use Rattle.expansion.proofs.take_arcs.Given as goal

abbrev pub invariant-loop-u : goal.invariant-loop-u
invariant-loop-u l =
    (l.u ≤ l.n) × Overwritten max_vertices l.initial.parents l.parents (expanded (place l.label) (place l.tails) (place l.heads) (on_cycle (place l.stamp) l.at) (place l.label l.e) (place l.initial.parents)) l.u
