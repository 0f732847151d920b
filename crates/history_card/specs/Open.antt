-- What opening a history card gives, as an equation. Assumes nothing: this is a definition.
use Rattle.std.specs.Prelude.{List, ℕ}
use Rattle.board.specs.Create.{opened_as}
use Rattle.board.specs.declared.Answered.{Answered}
use Rattle.history_format.specs.HistoryCard.{history_refusal, history_model}

-- "A board can be written as a new card, records and all": and this is what such a card opens as
unfoldable pub history_opened : (card : List ℕ) → Answered
history_opened ws = opened_as (history_refusal ws) (history_model ws)
