-- `records_width` has counted the bits of the first k records. Assumes nothing.
use mathlib.Core.Path.{◌≡◌}
use Prim.Native.Nat.{◌≤◌}
use lib.ListN.{length}
use Rattle.history_card.proofs.PutLaws.{records_to}
use Rattle.history_card.proofs.put.records_width.Given as goal

abbrev pub invariant-loop-record : goal.invariant-loop-record
invariant-loop-record l = (l.record-index ≤ length l.records) × (l.width ≡ length (records_to l.records l.record-index))
