-- `open_card` goes by the kind of the card. Assumes nothing.
use mathlib.Core.Path.{sym, ◌∙◌}
use Rattle.planner.proofs.OpeningLaws.{kind_opened, kind_plain}
use Rattle.planner.proofs.opening.open_card.Goals as goal

pub returns-then-is_history_card : goal.returns-then-is_history_card
returns-then-is_history_card c = c.open_history.ensures ∙ kind_opened _ (sym c.is_history_card.ensures ∙ c.if-is_history_card.true)

pub returns : goal.returns
returns c = c.open_plain.ensures ∙ kind_plain _ (sym c.is_history_card.ensures ∙ c.if-is_history_card.false)
