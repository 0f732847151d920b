-- One line for each kind of outcome. Assumes nothing.
use Rattle.why_text.specs.Verdict.{mandatory_line}
use Rattle.why_text.proofs.verdict.mandatory_by.Goals as goal

pub returns-in-Plan : goal.returns-in-Plan
unfolding mandatory_line
returns-in-Plan c = rw (c.in-Plan.is, c.outcome_total-least.ensures)

pub returns-in-Over : goal.returns-in-Over
unfolding mandatory_line
returns-in-Over c = rw (c.in-Over.is, c.outcome_total-least.ensures)

pub returns-in-NoTree : goal.returns-in-NoTree
unfolding mandatory_line
returns-in-NoTree c = rw c.in-NoTree.is
