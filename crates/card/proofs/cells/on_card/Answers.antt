-- `on_card` is `can_be_arc` of the cell's tail and head. Assumes nothing.
use Rattle.card_format.specs.Card.{on_card}
use Rattle.card.proofs.cells.on_card.Goals as goal

pub returns : goal.returns
unfolding on_card
returns c = c.can_be_arc.ensures
