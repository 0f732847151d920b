-- Each way answers with the tests that led there. Assumes nothing.
use mathlib.Core.Path.{◌≡◌, sym}
use mathlib.Core.Logic.{⊎_elim}
use borrow.Author.Tests.{lt-ltb}
use Rattle.instance.specs.declared.Outcome.TheVariants.{Plan, Over}
use Rattle.witness.proofs.LimitLaws.{within_budget}
use Rattle.witness.specs.Witness.{beaten}
use Rattle.witness.proofs.is_beaten.Goals as goal

pub returns-then-total-budget : goal.returns-then-total-budget
returns-then-total-budget c = sym (within_budget _ _ c.args.other c.if-total-budget.true)

pub returns-in-Plan : goal.returns-in-Plan
unfolding beaten
returns-in-Plan c =
    let above = lt-ltb _ _ c.if-total-budget.false in
    ⊎_elim (λ (e : c.args.other ≡ Plan c.in-Plan.least). rw (e, above)) (λ (e : c.args.other ≡ Over c.in-Plan.least). rw (e, above)) c.in-Plan.is

pub returns-in-NoTree : goal.returns-in-NoTree
unfolding beaten
returns-in-NoTree c = rw c.in-NoTree.is
