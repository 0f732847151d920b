-- `needed_length` rounds the bits up to bytes. Assumes nothing.
use native.Mathlib.Omega.{arith}
use Rattle.card_format.specs.Card.{bytes_needed}
use Rattle.card_format.proofs.LengthLaws.{length_known}
use Rattle.card.proofs.lengths.needed_length.Goals as goal

pub overflow_add-result : goal.overflow_add-result
overflow_add-result c = omega (arith, c.needed_bits-bits.ensures, (length_known c.args.n (omega arith)).most)

pub returns : goal.returns
unfolding bytes_needed
returns c = rw (← c.needed_bits-bits.ensures)
