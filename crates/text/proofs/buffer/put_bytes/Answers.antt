-- The part of the buffer that is written is the text. Assumes nothing.
use native.Mathlib.Omega.{arith}
use Prim.Native.Nat.{◌+◌, ◌-◌}
use lib.ListN.{length}
use Rattle.text.proofs.BufferLaws.{puts_part}
use Rattle.text.proofs.buffer.put_bytes.Goals as goal

pub returns : goal.returns
returns c =
    let a = c.args in
    rw c.copy_from_slice.ensures.after (puts_part a.bytes.now a.out.now a.at (a.at + length a.bytes.now - a.at) (omega arith))
