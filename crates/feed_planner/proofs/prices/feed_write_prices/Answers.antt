-- What writing gave, as words. Assumes nothing.
use mathlib.Core.Path.{ap}
use Rattle.price_list.specs.Writes.{ListWritten}
use Rattle.feed_planner.proofs.StoreLaws.{tells}
use Rattle.feed_planner.proofs.RefusedLaws.{tells_refused}
use Rattle.feed_planner.proofs.prices.feed_write_prices.Goals as goal

pub returns-in-Ok : goal.returns-in-Ok
returns-in-Ok c =
    let m = c.in-Ok.ensures in
    tells _ _ _ _ _ _ _ _ (ap (λ (x : ListWritten). x.answer) m.result) (ap (λ (x : ListWritten). x.length) m.result) m.buffer

pub returns-in-Err : goal.returns-in-Err
returns-in-Err c =
    let m = c.in-Err.ensures in
    rw c.from.ensures (tells_refused _ _ _ _ _ _ _ (ap (λ (x : ListWritten). x.answer) m.result) m.buffer)
