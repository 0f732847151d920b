-- `put_records` has put the first k records. Assumes nothing.
use Prim.Native.Nat.{◌≤◌}
use Rattle.bits.specs.Writer.{Put}
use lib.ListN.{length}
use Rattle.history_card.proofs.PutLaws.{records_to}
use Rattle.history_card.proofs.put.put_records.Given as goal

abbrev pub invariant-loop-record : goal.invariant-loop-record
invariant-loop-record l = (l.record-index ≤ length l.records) × Put (records_to l.records l.record-index) l.initial.w l.initial.out l.out l.w
