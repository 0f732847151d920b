-- `read_bits` meets its contract. The loop's invariant: the value is the field of the bytes read so far. The field
-- that is asked for lies within that of all its bytes. Assumes nothing.
use mathlib.Core.Path.{◌≡◌}
use Prim.Native.Nat.{◌≤◌, ◌*◌}
use Rattle.bits.specs.Bits.{field, bits_in}
use Rattle.bits.proofs.read_bits.Given as goal

abbrev pub invariant-loop-byte : goal.invariant-loop-byte
invariant-loop-byte l = (l.byte-index ≤ l.count) × (l.value ≡ field (8 * l.first) (8 * l.byte-index) (bits_in l.bytes))
