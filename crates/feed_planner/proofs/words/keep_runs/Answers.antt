-- Each word by the arm that set it. Assumes nothing.
use mathlib.Core.Path.{refl}
use Rattle.runs.specs.Planning.{view_number}
use Rattle.feed_planner.proofs.words.keep_runs.Goals as goal

pub returns-in-Ok : goal.returns-in-Ok
unfolding view_number
returns-in-Ok c = rw (c.in-Ok.is, c.outcome_kind.ensures, c.outcome_total.ensures) (refl, refl)

pub returns-in-Err : goal.returns-in-Err
unfolding view_number
returns-in-Err c = rw (c.in-Err.is, c.from.ensures) (refl, refl)
