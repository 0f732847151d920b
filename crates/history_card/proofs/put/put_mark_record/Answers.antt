-- `put_mark_record` meets its contract: kind and tail, then head and mark. Assumes nothing.
use Prim.Native.Nat.{◌+◌}
use native.Mathlib.Omega.{arith}
use Rattle.bits.proofs.WriterLaws.{put_then, ready_next, ready_fewer}
use Rattle.card_format.specs.Widths.{mark_width}
use Rattle.history_format.specs.RecordWidths.{kind_width, vertex_width, head_start, mark_record_width}
use Rattle.history_format.proofs.RecordLaws.{length_mark}
use Rattle.history_card.proofs.PutLaws.{length_two, mark_record_bits}
use Rattle.history_card.proofs.put.put_mark_record.Goals as goal

pub put_two-between-requires : goal.put_two-between-requires
put_two-between-requires c =
    let a = c.args in
    (ready_fewer _ _ mark_record_width head_start (omega arith) (rw (length_mark a.tail a.head a.mark) at c.requires), omega arith, omega arith)

pub put_two-requires : goal.put_two-requires
put_two-requires c =
    let a = c.args in (
      ready_next _ _ _ _ _ head_start (vertex_width + mark_width) c.put_two-between.ensures
          (length_two kind_width vertex_width 0 a.tail) (rw (length_mark a.tail a.head a.mark) at c.requires),
      omega arith,
      omega arith,
    )

pub returns : goal.returns
returns c =
    let a = c.args in
    rw (mark_record_bits a.tail a.head a.mark) (put_then _ _ _ _ _ _ _ _ c.put_two-between.ensures c.put_two.ensures)
