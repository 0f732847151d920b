-- `read_cell` meets its contract: the fields of a cell on the card are within the bytes. Assumes nothing.
use Prim.Native.Nat.{◌+◌}
use native.Mathlib.Omega.{arith}
use Rattle.bits.specs.Bits.{bits_in}
use Rattle.bits.proofs.ByteLaws.{bits_in_are_bits}
use Rattle.bits.proofs.FieldLaws.{field_below}
use Rattle.card_format.specs.Widths.{weight_width, mark_width}
use Rattle.card.proofs.cells.read_cell.Goals as goal

pub overflow_cast-result : goal.overflow_cast-result
overflow_cast-result c =
    let a = c.args in
    omega (arith, c.read_bits-mark.ensures, field_below (a.at + weight_width) mark_width (bits_in a.card.now) (bits_in_are_bits a.card.now))
