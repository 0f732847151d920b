-- `read_mark_record` meets its contract: the laws of its kind. Assumes nothing.
use mathlib.Core.Path.{◌∙◌, sym}
use Prim.Native.Nat.{◌+◌}
use native.Mathlib.Omega.{arith}
use Rattle.bits.specs.Bits.{bits_in}
use Rattle.bits.proofs.ByteLaws.{bits_in_are_bits}
use Rattle.bits.proofs.FieldLaws.{field_below}
use Rattle.card_format.specs.Widths.{mark_width}
use Rattle.history_format.specs.RecordWidths.{kind_width, vertex_width, head_start, mark_start, mark_record_width}
use Rattle.history_format.proofs.RecordLaws.{read_mark_length}
use Rattle.history_card.proofs.RecordLaws.{past_read, mark_read}
use Rattle.history_card.proofs.record.read_mark_record.Goals as goal

pub returns-then-runs_past : goal.returns-then-runs_past
returns-then-runs_past c =
    past_read c.args.card.now c.args.at mark_record_width (omega arith) (omega (arith, read_mark_length _ c.requires.0))
    (sym c.runs_past.ensures ∙ c.if-runs_past.true)

pub overflow_cast-result : goal.overflow_cast-result
overflow_cast-result c =
    let a = c.args in
    omega (arith, c.read_bits-tail.ensures, field_below (a.at + kind_width) vertex_width (bits_in a.card.now) (bits_in_are_bits a.card.now))

pub overflow_cast-result-2 : goal.overflow_cast-result-2
overflow_cast-result-2 c =
    let a = c.args in
    omega (arith, c.read_bits-head.ensures, field_below (a.at + head_start) vertex_width (bits_in a.card.now) (bits_in_are_bits a.card.now))

pub overflow_cast-result-3 : goal.overflow_cast-result-3
overflow_cast-result-3 c =
    let a = c.args in
    omega (arith, c.read_bits-mark.ensures, field_below (a.at + mark_start) mark_width (bits_in a.card.now) (bits_in_are_bits a.card.now))

pub returns : goal.returns
returns c =
    rw (c.read_bits-tail.ensures, c.read_bits-head.ensures, c.read_bits-mark.ensures)
    (mark_read c.args.card.now c.args.at c.requires.0 (sym c.runs_past.ensures ∙ c.if-runs_past.false))
