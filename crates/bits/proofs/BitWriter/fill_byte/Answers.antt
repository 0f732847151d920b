-- `fill_byte` meets its contract: zeros are the bits of 0. Assumes nothing.
use Prim.Native.Nat.{◌-◌, ◌%◌}
use Rattle.bits.proofs.NumberLaws.{bits_of_zero}
use Rattle.bits.proofs.BitWriter.fill_byte.Goals as goal

pub returns : goal.returns
returns c = rw (← bits_of_zero ((8 - c.args.self.count) % 8)) c.put_bits.ensures
