-- What the card's making gave, as words. Assumes nothing.
use mathlib.Core.Path.{ap}
use Rattle.price_card.specs.ToCard.{CardMade}
use Rattle.feed_planner.proofs.StoreLaws.{tells}
use Rattle.feed_planner.proofs.RefusedLaws.{tells_refused}
use Rattle.feed_planner.proofs.prices.feed_card_from_prices.Goals as goal

pub returns-in-Ok : goal.returns-in-Ok
returns-in-Ok c =
    let m = c.in-Ok.ensures in
    record {
      stored = tells _ _ _ _ _ _ _ _ (ap (λ (x : CardMade). x.answer) m.result) (ap (λ (x : CardMade). x.length) m.result) m.buffer;
      faulty = ap (λ (x : CardMade). x.line) m.result;
    }

pub returns-in-Err : goal.returns-in-Err
returns-in-Err c =
    let m = c.in-Err.ensures in
    rw (c.tell_refused.ensures.0, c.tell_refused.ensures.1) (record { stored = tells_refused _ _ _ _ _ _ _ (ap (λ (x : CardMade). x.answer) m.result) m.buffer; faulty = ap (λ (x : CardMade). x.line) m.result })
