-- `records_width` has counted the bits of the first k records. Assumes nothing.
use mathlib.Core.Path.{sym, ap}
use Prim.Native.Nat.{◌+◌}
use native.Mathlib.Omega.{arith}
use lib.ListN.{length}
use Rattle.history_card.proofs.PutLaws.{records_none, length_next, records_most}
use Rattle.history_card.proofs.put.records_width.Goals as goal

pub loop-record-init : goal.loop-record-init
loop-record-init c = (omega arith, sym (ap length (records_none c.args.records.now)))

pub overflow_add-width : goal.overflow_add-width
overflow_add-width c =
    let l = c.loop-record in
    let rs = c.args.records.now in
    record { fits = omega (arith, c.requires, l.invariant.0, l.invariant.1, c.record_width-width.ensures, length_next rs l.record-index, records_most rs (l.record-index + 1)) }

pub loop-record-preserved : goal.loop-record-preserved
loop-record-preserved c =
    let l = c.loop-record in
    (omega arith, omega (arith, l.invariant.1, c.record_width-width.ensures, length_next c.args.records.now l.record-index))
