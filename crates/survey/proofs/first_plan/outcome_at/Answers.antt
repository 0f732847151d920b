-- Each way out answers with the test that led there. Assumes nothing.
use mathlib.Core.Path.{sym}
use Rattle.survey.proofs.FirstPlanLaws.{plan_at, over_at}
use Rattle.survey.proofs.first_plan.outcome_at.Goals as goal

pub returns-then-total-budget : goal.returns-then-total-budget
returns-then-total-budget c = sym (plan_at _ _ c.if-total-budget.true)

pub returns : goal.returns
returns c = sym (over_at _ _ c.if-total-budget.false)
