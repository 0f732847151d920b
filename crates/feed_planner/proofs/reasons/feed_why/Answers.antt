-- A refused card, and the planner's reason for the board. Assumes nothing.
use Rattle.instance.proofs.RefusalLaws.{not_0}
use mathlib.Core.Path.{refl}
use Rattle.feed_planner.proofs.ReasonLaws.{why_refused, why_shown}
use Rattle.feed_planner.proofs.reasons.feed_why.Goals as goal

pub returns-in-Err : goal.returns-in-Err
returns-in-Err c = rw c.from.ensures (why_refused _ _ c.in-Err.ensures _ _ _ (not_0 _) _)

pub returns : goal.returns
returns c =
    why_shown _ _ c.in-Ok.ensures _ _ _ refl _ c.why-found.result _ _ _ c.why-found.ensures c.keep_reason.ensures
