-- A refused card, and the planner's plan without the arc. Assumes nothing.
use Rattle.instance.proofs.RefusalLaws.{not_0}
use mathlib.Core.Path.{refl}
use Rattle.feed_planner.proofs.ReasonLaws.{without_refused, without_shown}
use Rattle.feed_planner.proofs.reasons.feed_plan_without.Goals as goal

pub returns-in-Err : goal.returns-in-Err
returns-in-Err c = rw c.from.ensures (without_refused _ _ c.in-Err.ensures _ _ _ (not_0 _) _)

pub returns : goal.returns
returns c =
    without_shown _ _ c.in-Ok.ensures _ _ _ refl _ c.plan_without-view.result _ _ _ c.plan_without-view.ensures c.keep_view.ensures
