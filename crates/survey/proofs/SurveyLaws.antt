-- From a planning of the matrix of what remains to what is found of the instance. Assumes nothing.
use mathlib.Core.Path.{◌≡◌, refl, sym, ap, ◌∙◌, subst}
use mathlib.Core.Bool.{true}
use mathlib.Core.Option.{some}
use mathlib.Core.List.{List}
use Prim.Native.Nat.{ℕ, ◌≤◌}
use native.Mathlib.Omega.{arith}
use lib.ListN.{take, replicate}
use Rattle.instance.specs.Limits.{max_vertices, max_budget, cells, cut_words}
use Rattle.instance.specs.Instance.{Instance}
use Rattle.instance.specs.Matrix.{matrix, matrix_instance, unmarked}
use Rattle.instance.specs.States.{limit_at, total_limit}
use Rattle.instance.specs.Valid.{valid_instance}
use Rattle.theory.proofs.SameArcs.{SameArcs, same_cheapest}
use Rattle.theory.proofs.MatrixInstances.{same_on, matrix_instance_same}
use Rattle.theory.proofs.Restriction.{matrix_same, matrix_arborescence, matrix_total}
use Rattle.theory.proofs.TotalLaws.{total_most}
use Rattle.edmonds.specs.declared.Planned.{Planned}
use Rattle.edmonds.specs.Planned.{PlannedMatrix, NonePlanned}
use Rattle.usable.specs.Table.{UsableTable}
use Rattle.usable.proofs.TableLaws.{shut_table}
use Rattle.survey.specs.FirstPlan.{PlansFirst}
use Rattle.survey.specs.Survey.{Surveys}
use Rattle.survey.specs.declared.first_plan.FirstPlan.{FirstPlan}
use Rattle.survey.proofs.FirstPlanLaws.{found_cheapest}
use Rattle.survey.proofs.SamePlans.{same_plan}

-- THE LIMIT is at least the total, and within a bound on both
module _ (v b : ℕ) where
  pub limit_least : v ≤ limit_at b (some v)
  unfolding limit_at
  limit_least = omega arith

  pub limit_most : (k : ℕ) → v ≤ k → b ≤ k → limit_at b (some v) ≤ k
  unfolding limit_at
  limit_most k h l = omega arith

-- WHAT PLANNING THE MATRIX OF AN INSTANCE TELLS OF IT
module _ (s : Instance) (small : s.n ≤ max_vertices) where
  abbrev whole : Instance
  whole = matrix_instance s.n s.root s.budget (matrix s)

  to : SameArcs whole s
  to = same_on whole (unmarked s.n s.root (matrix s)) s (matrix_instance_same s.n s.root s.budget (matrix s)) (matrix_same s small)

  -- no arborescence
  pub none_survey : (set : ℕ) → NonePlanned (matrix s) s.n s.root set → (plan : FirstPlan) → PlansFirst (matrix_instance s.n s.root s.budget (matrix s)) plan →
      Surveys s (record { plan = plan; used = replicate cells 0 })
  none_survey set p plan is =
      record {
        plan = same_plan whole s to refl plan is;
        table = shut_table s.n s.root (total_limit s) (matrix s) small (record { set = set; value = 0 }) p;
      }

  -- an arborescence
  module _ (reduced words : List ℕ) (r : Planned) (p : PlannedMatrix (matrix s) reduced s.n s.root (replicate cut_words 0) words r) where
    found_limit : total_limit s ≡ limit_at s.budget (some r.total)
    unfolding total_limit
    found_limit = ap (limit_at s.budget) (sym (same_cheapest whole s to) ∙ found_cheapest s.n s.root s.budget (matrix s) small reduced words r p)

    -- its total is within the greatest budget
    pub found_most : valid_instance s ≡ true → r.total ≤ max_budget
    found_most valid =
        let ps = take s.n r.parents in
        let tree = (matrix_arborescence s small ps).0 p.minimum.arborescence in
        let most = total_most s valid ps tree in
        omega (arith, p.is_total ∙ matrix_total s small ps tree)

    pub found_survey : (plan : FirstPlan) (limit : ℕ) (used : List ℕ) → PlansFirst (matrix_instance s.n s.root s.budget (matrix s)) plan →
        limit ≡ limit_at s.budget (some r.total) → UsableTable (matrix_instance s.n s.root limit (matrix s)) used →
        Surveys s (record { plan = plan; used = used })
    found_survey plan limit used is e table =
        record {
          plan = same_plan whole s to refl plan is;
          table = subst (λ (k : ℕ). UsableTable (matrix_instance s.n s.root k (matrix s)) used) (e ∙ sym found_limit) table;
        }
