-- `put_bits` meets its contract. The loop's invariant is `Storing`: the bytes stored and the bits left are all the
-- bits. Assumes nothing.
use mathlib.Core.Path.{◌≡◌}
use Prim.Native.Nat.{◌*◌, ◌%◌, ◌^◌}
use native.Mathlib.Omega.{arith}
use Rattle.bits.proofs.NumberLaws.{power_word}
use Rattle.bits.proofs.WriterLaws.{store_byte, all_stored}
use Rattle.bits.proofs.BitWriter.put_bits.Goals as goal

pub loop-left-preserved : goal.loop-left-preserved
loop-left-preserved c = store_byte _ _ _ c.loop-left.invariant (omega arith) (omega arith)

pub returns : goal.returns
returns c =
    let a = c.args in
    let e : 1 * 2 ^ a.width % 18446744073709551616 ≡ 2 ^ a.width = power_word a.width (omega arith) in
    let l = c.loop-left in
    let p = c.from.ensures in
    let q = c.from-2.ensures in
    rw (e, p, q) (all_stored a.out.now a.self a.width a.value l.out l.at l.left (rw (e, p, q) at l.invariant) (omega arith))
