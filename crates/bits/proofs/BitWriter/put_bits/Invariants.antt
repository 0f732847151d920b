-- `put_bits` meets its contract. The loop's invariant is `Storing`: the bytes stored and the bits left are all the
-- bits. Assumes nothing.
use Rattle.bits.proofs.WriterLaws.{Storing}
use Rattle.bits.proofs.BitWriter.put_bits.Given as goal

abbrev pub invariant-loop-left : goal.invariant-loop-left
invariant-loop-left l = Storing l.initial.out l.initial.at l.initial.left l.bits l.out l.at l.left

abbrev pub decreases-loop-left : goal.decreases-loop-left
decreases-loop-left l = l.left
