-- Each way out answers with the larger by the test that led there. Assumes nothing.
use native.Mathlib.Omega.{arith}
use Rattle.instance.specs.States.{limit_at}
use Rattle.survey.proofs.limit_at.Goals as goal

pub returns-then-budget-total : goal.returns-then-budget-total
unfolding limit_at
returns-then-budget-total c = omega (arith, c.if-budget-total.true)

pub returns : goal.returns
unfolding limit_at
returns c = omega (arith, c.if-budget-total.false)
