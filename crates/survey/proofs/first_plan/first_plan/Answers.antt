-- Where there is no arborescence, its law says so. Assumes nothing.
use mathlib.Core.Path.{sym, subst}
use Rattle.instance.specs.Matrix.{matrix_instance}
use Rattle.survey.specs.FirstPlan.{PlansFirst}
use Rattle.survey.proofs.FirstPlanLaws.{none_plan}
use Rattle.survey.proofs.first_plan.first_plan.Goals as goal

pub returns-in-Err : goal.returns-in-Err
returns-in-Err c =
    let a = c.args in
    subst (PlansFirst (matrix_instance a.n a.root a.budget a.m.now)) (sym c.no_tree.ensures) (none_plan a.n a.root a.budget a.m.now _ c.requires.matrix.small (rw c.in-Err.is at c.requires.none))
