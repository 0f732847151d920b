-- `weights_on_card` meets its contract: the card is refused, or its board is valid and its weights are taken. Assumes
-- nothing.
use mathlib.Core.Path.{refl}
use Rattle.instance.proofs.RefusalLaws.{not_0}
use Rattle.price_card.proofs.FromCardLaws.{card_refused, board_good, card_read}
use Rattle.price_card.proofs.from_card.weights_on_card.Goals as goal

pub returns-in-Err : goal.returns-in-Err
returns-in-Err c = card_refused _ _ c.in-Err.ensures _ c.from.ensures (not_0 _)

pub take_weights-requires : goal.take_weights-requires
take_weights-requires c = board_good _ _ c.in-Ok.ensures refl

pub returns-in-Ok : goal.returns-in-Ok
returns-in-Ok c = card_read _ _ c.in-Ok.ensures refl c.take_weights.result c.take_weights.ensures
