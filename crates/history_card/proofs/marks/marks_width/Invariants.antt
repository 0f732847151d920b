-- `marks_width` has counted the bits of the heads below `head`. Assumes nothing.
use mathlib.Core.Path.{◌≡◌}
use Prim.Native.Nat.{◌≤◌}
use Rattle.instance.specs.Limits.{max_vertices}
use Rattle.history_format.specs.RecordBits.{mark_offset}
use Rattle.history_card.proofs.marks.marks_width.Given as goal

abbrev pub invariant-loop-head : goal.invariant-loop-head
invariant-loop-head l = (l.head ≤ max_vertices) × (l.width ≡ mark_offset l.heads l.head)
