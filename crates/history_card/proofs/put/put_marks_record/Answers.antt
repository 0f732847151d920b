-- `put_marks_record` meets its contract: kind and tail, then the heads, then their marks, each with the room that
-- `PutLaws` counts. Assumes nothing.
use native.Mathlib.Omega.{arith}
use Rattle.heads.specs.RecordMarks.{record_marks}
use Rattle.history_card.proofs.PutLaws.{tail_room, heads_room, marks_room, marks_put}
use Rattle.history_card.proofs.put.put_marks_record.Goals as goal

pub put_two-after_tail-requires : goal.put_two-after_tail-requires
put_two-after_tail-requires c =
    let a = c.args in
    (tail_room a.tail a.heads (record_marks a.heads a.marks) a.out.now a.w c.requires, omega arith, omega arith)

pub put_bits-after_heads-requires : goal.put_bits-after_heads-requires
put_bits-after_heads-requires c =
    let a = c.args in
    (heads_room a.tail a.heads (record_marks a.heads a.marks) a.out.now a.w c.requires _ _ c.put_two-after_tail.ensures, omega arith)

pub put_marks-requires : goal.put_marks-requires
put_marks-requires c =
    let a = c.args in
    marks_room a.tail a.heads (record_marks a.heads a.marks) a.out.now a.w c.requires _ _ c.put_two-after_tail.ensures _ _ c.put_bits-after_heads.ensures

pub returns : goal.returns
returns c =
    let a = c.args in
    marks_put a.tail a.heads (record_marks a.heads a.marks) a.out.now a.w c.requires _ _ c.put_two-after_tail.ensures
    _ _ c.put_bits-after_heads.ensures _ _ c.put_marks.ensures
