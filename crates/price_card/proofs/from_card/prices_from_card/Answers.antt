-- `prices_from_card` meets its contract: the weights taken of the card, listed. Assumes nothing.
use Rattle.price_card.proofs.FromCardLaws.{card_listed}
use Rattle.price_card.proofs.from_card.prices_from_card.Goals as goal

pub returns : goal.returns
returns c =
    let t = c.weights_on_card-taken in
    let l = c.list_weights in
    card_listed _ _ _ t.result t.ensures l.result l.ensures
