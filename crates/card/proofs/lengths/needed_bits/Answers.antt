-- `needed_bits` meets its contract: it computes as the definition does, and nothing overflows, since a card's bits are
-- at most those of the longest card. Assumes nothing.
use borrow.Author.Rules.{rules}
use Rattle.card_format.specs.Card.{bits_needed}
use Rattle.card.proofs.lengths.needed_bits.Goals as goal

pub returns : goal.returns
unfolding bits_needed
returns c = search rules
