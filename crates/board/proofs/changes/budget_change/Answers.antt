-- `budget_change` is the definition, test by test. Assumes nothing.
use borrow.Author.Tests.{lt-ltb, le-ltb, le-leb, lt-leb}
use Rattle.commands.specs.Commands.{budget_refusal}
use Rattle.board.specs.Changes.{changed, budget_change}
use Rattle.board.proofs.changes.budget_change.Goals as goal

pub returns-then-new-gt-MAX_BUDGET : goal.returns-then-new-gt-MAX_BUDGET
unfolding budget_change budget_refusal changed
returns-then-new-gt-MAX_BUDGET c = simp (lt-ltb _ _ c.if-new-gt-MAX_BUDGET.true)

pub returns-then-at-ge-MAX_RECORDS : goal.returns-then-at-ge-MAX_RECORDS
unfolding budget_change budget_refusal changed
returns-then-at-ge-MAX_RECORDS c = simp (le-ltb _ _ c.if-new-gt-MAX_BUDGET.false, le-leb _ _ c.if-at-ge-MAX_RECORDS.true)

pub returns : goal.returns
unfolding budget_change budget_refusal changed
returns c = simp (le-ltb _ _ c.if-new-gt-MAX_BUDGET.false, lt-leb _ _ c.if-at-ge-MAX_RECORDS.false)
