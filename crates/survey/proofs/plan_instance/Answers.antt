-- The matrix of what remains is planned; each outcome is told of the instance by its law. Assumes nothing.
use mathlib.Core.Path.{◌≡◌, sym, ◌∙◌, subst}
use mathlib.Core.List.{List}
use mathlib.Core.Option.{some}
use Prim.Native.Nat.{ℕ}
use lib.ListN.{replicate}
use Rattle.instance.specs.Limits.{max_budget, cut_words}
use Rattle.instance.specs.Instance.{instance_with, without_budget}
use Rattle.instance.specs.Matrix.{matrix, matrix_instance, MatrixOk}
use Rattle.instance.specs.States.{limit_at}
use Rattle.instance.proofs.ValidLaws.{valid_budget}
use Rattle.instance.proofs.MatrixLaws.{matrix_budget, valid_matrix}
use Rattle.edmonds.specs.Planned.{PlannedMatrix, NonePlanned}
use Rattle.usable.specs.Fitting.{FittingPlan}
use Rattle.usable.specs.Table.{UsableTable}
use Rattle.usable.proofs.FittingLaws.{planned_fitting}
use Rattle.survey.specs.FirstPlan.{PlansFirst}
use Rattle.survey.proofs.FirstPlanLaws.{none_plan}
use Rattle.survey.proofs.SurveyLaws.{limit_least, limit_most, none_survey, found_most, found_survey}
use Rattle.survey.proofs.plan_instance.Goals as goal

-- the matrix that is made is that of the instance
made : (n root budget : ℕ) (weights marks m : List ℕ) → m ≡ matrix (without_budget n root weights marks) → m ≡ matrix (instance_with n root budget weights marks)
made n root budget weights marks m e = e ∙ sym (matrix_budget n root budget weights marks)

pub remaining_matrix-m-requires : goal.remaining_matrix-m-requires
remaining_matrix-m-requires c =
    let a = c.args in
    (valid_matrix (instance_with a.n a.root a.budget a.weights.now a.marks.now) c.requires).small

pub plan_matrix-requires : goal.plan_matrix-requires
plan_matrix-requires c =
    let a = c.args in
    let s = instance_with a.n a.root a.budget a.weights.now a.marks.now in
    subst (MatrixOk s.n s.root) (sym (made _ _ a.budget _ _ _ c.remaining_matrix-m.ensures)) (valid_matrix s c.requires)

pub tree_plan-plan-requires : goal.tree_plan-plan-requires
tree_plan-plan-requires c =
    let a = c.args in
    let s = instance_with a.n a.root a.budget a.weights.now a.marks.now in
    (subst (MatrixOk s.n s.root) (sym (made _ _ a.budget _ _ _ c.remaining_matrix-m.ensures)) (valid_matrix s c.requires), c.in-Ok.ensures.ok)

-- with the limit on totals
pub usable_arcs-used-requires : goal.usable_arcs-used-requires
usable_arcs-used-requires c =
    let a = c.args in
    let s = instance_with a.n a.root a.budget a.weights.now a.marks.now in
    let e = made _ _ a.budget _ _ _ c.remaining_matrix-m.ensures in
    let r = c.in-Ok.planned in
    let ok = valid_matrix s c.requires in
    let planned = subst (λ (m : List ℕ). PlannedMatrix m c.plan_matrix.new.w s.n s.root (replicate cut_words 0) c.plan_matrix.new.cuts r) e c.in-Ok.ensures.ok in
    let most = found_most s ok.small _ _ r planned c.requires in
    let fits = limit_most r.total s.budget max_budget most (valid_budget s c.requires) in
    rw c.limit_at-limit.ensures
    (subst (λ (m : List ℕ). FittingPlan m c.plan_matrix.new.w r.parents s.n s.root r.total (limit_at s.budget (some r.total))) (sym e)
    (planned_fitting s.n s.root _ _ _ _ r _ ok planned (limit_least r.total s.budget) fits))

pub returns-in-Ok : goal.returns-in-Ok
returns-in-Ok c =
    let a = c.args in
    let s = instance_with a.n a.root a.budget a.weights.now a.marks.now in
    let e = made _ _ a.budget _ _ _ c.remaining_matrix-m.ensures in
    let r = c.in-Ok.planned in
    let plans = subst (λ (m : List ℕ). PlansFirst (matrix_instance s.n s.root s.budget m) c.tree_plan-plan.result) e c.tree_plan-plan.ensures in
    let planned = subst (λ (m : List ℕ). PlannedMatrix m c.plan_matrix.new.w s.n s.root (replicate cut_words 0) c.plan_matrix.new.cuts r) e c.in-Ok.ensures.ok in
    let table = subst (λ (m : List ℕ). UsableTable (matrix_instance s.n s.root c.limit_at-limit.result m) c.usable_arcs-used.result) e c.usable_arcs-used.ensures in
    found_survey s (valid_matrix s c.requires).small _ _ r planned c.tree_plan-plan.result c.limit_at-limit.result c.usable_arcs-used.result plans c.limit_at-limit.ensures table

pub returns-in-Err : goal.returns-in-Err
returns-in-Err c =
    let a = c.args in
    let s = instance_with a.n a.root a.budget a.weights.now a.marks.now in
    let none = subst (λ (m : List ℕ). NonePlanned m s.n s.root c.in-Err.unreached.set) (made _ _ a.budget _ _ _ c.remaining_matrix-m.ensures) c.in-Err.ensures.err in
    let small = (valid_matrix s c.requires).small in
    none_survey s small _ none c.no_tree.result
    (subst (PlansFirst (matrix_instance s.n s.root s.budget (matrix s))) (sym c.no_tree.ensures) (none_plan s.n s.root s.budget (matrix s) _ small none))
