-- Each word by the arm that set it. Assumes nothing.
use mathlib.Core.Path.{refl}
use Rattle.feed_planner.proofs.words.keep_view.Goals as goal

pub returns-in-Shown : goal.returns-in-Shown
returns-in-Shown c = rw (c.in-Shown.is, c.outcome_kind.ensures, c.outcome_total.ensures) (record { number = refl; words = refl })

pub returns-in-Refused : goal.returns-in-Refused
returns-in-Refused c = rw c.in-Refused.is (record { number = refl; words = refl })
