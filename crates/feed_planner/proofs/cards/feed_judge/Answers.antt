-- The answer of opening is the card's refusal. Assumes nothing.
use mathlib.Core.Path.{◌∙◌}
use Rattle.planner.proofs.OpeningLaws.{opened_answer}
use Rattle.feed_planner.proofs.cards.feed_judge.Goals as goal

pub returns-in-Ok : goal.returns-in-Ok
returns-in-Ok c = opened_answer _ _ c.in-Ok.ensures

pub returns-in-Err : goal.returns-in-Err
returns-in-Err c = c.from.ensures ∙ opened_answer _ _ c.in-Err.ensures
