-- Each word by the arm that set it. Assumes nothing.
use mathlib.Core.Path.{refl}
use Rattle.feed_planner.proofs.words.keep_listing.Goals as goal

pub returns-in-Ok : goal.returns-in-Ok
returns-in-Ok c = rw (c.in-Ok.is, c.ended_number.ensures) (refl, refl)

pub returns-in-Err : goal.returns-in-Err
returns-in-Err c = rw (c.in-Err.is, c.from.ensures) (refl, refl)
