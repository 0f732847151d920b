-- The three ways of the move, and its length. Assumes nothing.
use Rattle.card.specs.Write.{written_of}
use Rattle.planner.proofs.MovingLaws.{to_history_cases}
use Rattle.feed_planner.proofs.StoreLaws.{stores_by}
use Rattle.feed_planner.proofs.cards.feed_to_history_card.Goals as goal

pub returns : goal.returns
returns c =
    let m = c.to_history_card in
    let s = stores_by _ _ _ _ (written_of m.result) _ (to_history_cases _ _ _ (written_of m.result) m.ensures) in
    rw (c.keep_written.ensures.0, c.keep_written.ensures.1) s
