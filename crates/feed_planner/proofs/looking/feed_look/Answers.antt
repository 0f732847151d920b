-- A refused card, and the look at the board. Assumes nothing.
use Rattle.instance.proofs.RefusalLaws.{not_0}
use mathlib.Core.Path.{refl}
use Rattle.feed_planner.proofs.LookLaws.{look_refused, look_shown}
use Rattle.feed_planner.proofs.looking.feed_look.Goals as goal

pub returns-in-Err : goal.returns-in-Err
returns-in-Err c = rw c.from.ensures (look_refused _ _ c.in-Err.ensures _ _ (not_0 _))

pub returns : goal.returns
returns c =
    look_shown _ _ c.in-Ok.ensures _ _ refl _ c.look-view.result _ _ c.look-view.ensures c.keep_view.ensures
