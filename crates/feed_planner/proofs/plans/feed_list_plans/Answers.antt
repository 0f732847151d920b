-- A refused card, and the listing of the board. Assumes nothing.
use Rattle.instance.proofs.RefusalLaws.{not_0}
use mathlib.Core.Path.{refl}
use Rattle.planner.specs.Enumerating.{listing_from}
use Rattle.feed_planner.proofs.PlanLaws.{list_refused, list_told}
use Rattle.feed_planner.proofs.plans.feed_list_plans.Goals as goal

pub returns-in-Err : goal.returns-in-Err
returns-in-Err c = rw c.from.ensures (list_refused _ _ c.in-Err.ensures _ _ _ (not_0 _))

pub returns : goal.returns
returns c =
    let w = c.keep_listing.ensures in
    list_told _ _ c.in-Ok.ensures _ _ _ (listing_from c.list_plans-listing.result) refl c.list_plans-listing.ensures _ _ _ w.0 w.1
