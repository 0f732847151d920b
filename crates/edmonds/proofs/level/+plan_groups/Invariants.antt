-- The measure is the bound on the number of groups, which falls at each call. Assumes nothing.
use Rattle.edmonds.proofs.level.+plan_groups.Given as goal

abbrev pub decreases-plan_groups : goal.decreases-plan_groups
decreases-plan_groups l = l.left
