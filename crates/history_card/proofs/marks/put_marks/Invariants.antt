-- `put_marks` has put the marks of the heads below `head`. Assumes nothing.
use Prim.Native.Nat.{◌≤◌}
use Rattle.bits.specs.Writer.{Put}
use Rattle.instance.specs.Limits.{max_vertices}
use Rattle.heads.specs.RecordMarks.{record_marks}
use Rattle.history_format.specs.RecordBits.{mark_bits}
use Rattle.history_card.proofs.marks.put_marks.Given as goal

abbrev pub invariant-loop-head : goal.invariant-loop-head
invariant-loop-head l = (l.head ≤ max_vertices) × Put (mark_bits l.head l.heads (record_marks l.heads l.marks)) l.initial.w l.initial.out l.out l.w
