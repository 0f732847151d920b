-- `cycles::contract::contracted_labels` meets its contract. The loop has filled the labels below u. Assumes nothing.
use Prim.Native.Nat.{◌≤◌}
use Rattle.instance.specs.Limits.{max_vertices}
use Rattle.contraction.specs.Groups.{contracted}
use Rattle.contraction.specs.Cells.{nth as place}
use Rattle.contraction.specs.Search.{on_cycle}
use Rattle.base.proofs.OverwriteLaws.{Overwritten}
use Rattle.cycles.proofs.contract.contracted_labels.Given as goal

abbrev pub invariant-loop-u : goal.invariant-loop-u
invariant-loop-u l = (l.u ≤ l.n) × Overwritten max_vertices l.initial.out l.out (contracted (place l.label) (on_cycle (place l.stamp) l.at) l.at) l.u
