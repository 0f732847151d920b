-- What listing gave, as words. Assumes nothing.
use mathlib.Core.Path.{ap}
use Rattle.price_card.specs.declared.from_card.CardPrices.{CardPrices}
use Rattle.feed_planner.proofs.StoreLaws.{tells}
use Rattle.feed_planner.proofs.prices.feed_prices_from_card.Goals as goal

pub returns : goal.returns
returns c =
    let m = c.prices_from_card-listed in
    let e = m.ensures.result in
    let s = tells _ _ _ _ _ _ _ _ (ap (λ (x : CardPrices). x.answer) e) (ap (λ (x : CardPrices). x.length) e) m.ensures.buffer in
    rw (c.keep_length.ensures.0, c.keep_length.ensures.1) s
