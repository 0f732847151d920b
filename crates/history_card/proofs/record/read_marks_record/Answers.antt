-- `read_marks_record` meets its contract: the laws of its kind. Assumes nothing.
use mathlib.Core.Path.{◌≡◌, ◌∙◌, sym}
use Prim.Native.Nat.{◌+◌}
use native.Mathlib.Omega.{arith}
use Rattle.bits.specs.Bits.{bits_in}
use Rattle.bits.proofs.ByteLaws.{bits_in_are_bits}
use Rattle.bits.proofs.FieldLaws.{field_below}
use Rattle.instance.specs.Limits.{max_vertices}
use Rattle.history_format.specs.RecordWidths.{kind_width, vertex_width, marks_start}
use Rattle.history_format.specs.RecordBits.{mark_offset}
use Rattle.history_format.proofs.MemberMarks.{offset_most}
use Rattle.history_format.proofs.RecordLaws.{read_marks_length}
use Rattle.history_card.proofs.RecordLaws.{past_read, marks_long, marks_read}
use Rattle.history_card.proofs.record.read_marks_record.Goals as goal

pub returns-then-runs_past : goal.returns-then-runs_past
returns-then-runs_past c =
    past_read c.args.card.now c.args.at marks_start (omega arith) (omega (arith, read_marks_length _ c.requires.0))
    (sym c.runs_past.ensures ∙ c.if-runs_past.true)

pub overflow_add-next : goal.overflow_add-next
overflow_add-next c = omega (arith, c.marks_width.ensures, offset_most c.read_bits-heads.result max_vertices)

pub runs_past-requires-2 : goal.runs_past-requires-2
runs_past-requires-2 c = omega (arith, c.marks_width.ensures, offset_most c.read_bits-heads.result max_vertices)

pub returns-then-runs_past-2 : goal.returns-then-runs_past-2
returns-then-runs_past-2 c =
    let a = c.args in
    let heads = c.read_bits-heads.result in
    let w = c.marks_width.ensures in
    let e : a.at + marks_start + c.marks_width.result ≡ a.at + (marks_start + mark_offset heads max_vertices) = omega arith in
    past_read a.card.now a.at (marks_start + mark_offset heads max_vertices) (omega arith)
    (omega (arith, marks_long a.card.now a.at c.requires.0 heads c.read_bits-heads.ensures))
    (rw e at (sym c.runs_past-2.ensures ∙ c.if-runs_past-2.true))

pub overflow_cast-result : goal.overflow_cast-result
overflow_cast-result c =
    let a = c.args in
    omega (arith, c.read_bits-tail.ensures, field_below (a.at + kind_width) vertex_width (bits_in a.card.now) (bits_in_are_bits a.card.now))

pub returns : goal.returns
returns c =
    let a = c.args in
    rw (c.read_bits-tail.ensures, c.marks_width.ensures)
    (marks_read a.card.now a.at c.requires.0 _ c.read_bits-heads.ensures _ c.read_marks-marks.ensures
    (rw c.marks_width.ensures at (sym c.runs_past-2.ensures ∙ c.if-runs_past-2.false)))
