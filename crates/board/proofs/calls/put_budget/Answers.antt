-- `put_budget` is the definition, kind by kind. Assumes nothing.
use Rattle.board.specs.Changes.{budget_put}
use Rattle.board.proofs.calls.put_budget.Goals as goal

pub returns-in-OldMark : goal.returns-in-OldMark
unfolding budget_put
returns-in-OldMark c = rw c.in-OldMark.is

pub returns-in-OldBudget : goal.returns-in-OldBudget
unfolding budget_put
returns-in-OldBudget c = rw c.in-OldBudget.is

pub returns-in-OldMarks : goal.returns-in-OldMarks
unfolding budget_put
returns-in-OldMarks c = rw c.in-OldMarks.is
