-- `put_records` has put the first k records. Assumes nothing.
use native.Mathlib.Omega.{arith}
use lib.ListN.{length}
use Rattle.bits.proofs.WriterLaws.{put_none, put_then}
use Rattle.history_card.proofs.PutLaws.{records_none, next_record, record_room}
use Rattle.history_card.proofs.put.put_records.Goals as goal

pub loop-record-init : goal.loop-record-init
loop-record-init c = (omega arith, rw (records_none c.args.records.now) (put_none _ _ c.requires.few))

pub put_record-w-requires : goal.put_record-w-requires
put_record-w-requires c =
    let l = c.loop-record in
    let rs = c.args.records.now in
    record_room rs _ _ _ _ l.record-index (length rs) (omega arith) l.invariant.1 c.requires

pub loop-record-preserved : goal.loop-record-preserved
loop-record-preserved c =
    let l = c.loop-record in
    (omega arith, rw (next_record c.args.records.now l.record-index) (put_then _ _ _ _ _ _ _ _ l.invariant.1 c.put_record-w.ensures))
