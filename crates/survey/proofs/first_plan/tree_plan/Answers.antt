-- What the planning found is told by its law. Assumes nothing.
use Rattle.first_tree.proofs.PlannedLaws.{planned_search, planned_tree}
use Rattle.survey.proofs.FirstPlanLaws.{found_plan}
use Rattle.survey.proofs.first_plan.tree_plan.Goals as goal

pub first_tree-parents-requires : goal.first_tree-parents-requires
first_tree-parents-requires c =
    let a = c.args in
    (planned_search a.n a.root _ _ _ _ a.planned c.requires.0 c.requires.1, planned_tree a.n a.root _ _ _ _ a.planned c.requires.0 c.requires.1)

pub returns : goal.returns
returns c =
    let a = c.args in
    found_plan a.n a.root a.budget _ c.requires.0.small _ _ a.planned c.requires.1 c.first_tree-parents.result c.outcome_at.result c.first_tree-parents.ensures.0 c.first_tree-parents.ensures.1 c.outcome_at.ensures
