-- What opening a card gives, as equations. Assumes nothing: these are definitions.
use Rattle.std.specs.Prelude.{List, ℕ}
use Rattle.card_format.specs.Card.{card_refusal, instance_in}
use Rattle.commands.specs.Model.{opened}
use Rattle.board.specs.Create.{opened_as}
use Rattle.board.specs.declared.Answered.{Answered}
use Rattle.history_format.specs.HistoryCard.{open_refusal, model_in}

-- Every card opens as a board or gets one of its refusals, and "no board", the blank one. A plain card: "A board opened
-- from a card has that card's marks and budget and no recorded press."
unfoldable pub plain_opened : (card : List ℕ) → Answered
plain_opened ws = opened_as (card_refusal ws) (opened (instance_in ws))

-- a card of either kind (02, A8: "Old cards still open."), with the records that came on it
unfoldable pub opened_from : (card : List ℕ) → Answered
opened_from ws = opened_as (open_refusal ws) (model_in ws)
