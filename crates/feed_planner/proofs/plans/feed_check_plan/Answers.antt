-- A refused card, and the check for the board. Assumes nothing.
use mathlib.Core.Path.{refl, ◌∙◌}
use Rattle.instance.proofs.RefusalLaws.{not_0}
use Rattle.feed_planner.proofs.PlanLaws.{check_refused, check_answered}
use Rattle.feed_planner.proofs.plans.feed_check_plan.Goals as goal

pub returns-in-Err : goal.returns-in-Err
returns-in-Err c = rw c.from.ensures (check_refused _ _ c.in-Err.ensures _ _ _ _ (not_0 _))

pub returns-in-Ok-check_plan : goal.returns-in-Ok-check_plan
returns-in-Ok-check_plan c = check_answered _ _ c.in-Ok.ensures _ _ _ _ _ _ _ refl c.in-Ok-check_plan.ensures

pub returns-in-Err-check_plan : goal.returns-in-Err-check_plan
returns-in-Err-check_plan c =
    c.from-in-Err-check_plan.ensures ∙ check_answered _ _ c.in-Ok.ensures _ _ _ _ _ _ _ refl c.in-Err-check_plan.ensures
