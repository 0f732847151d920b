-- One line for each kind of outcome. Assumes nothing.
use Rattle.text.specs.Lines.{codes}
use Rattle.report_text.specs.Heading.{outcome_line}
use Rattle.report_text.proofs.heading.put_outcome.Goals as goal

pub put_line-requires : goal.put_line-requires
unfolding codes outcome_line
put_line-requires c = rw c.in-Plan.is at c.requires

pub put_line-requires-in-Over : goal.put_line-requires-in-Over
unfolding codes outcome_line
put_line-requires-in-Over c = rw c.in-Over.is at c.requires

pub put_bytes-requires : goal.put_bytes-requires
unfolding codes outcome_line
put_bytes-requires c = rw c.in-NoTree.is at c.requires

pub returns-in-Plan : goal.returns-in-Plan
unfolding codes outcome_line
returns-in-Plan c = rw c.in-Plan.is c.put_line.ensures

pub returns-in-Over : goal.returns-in-Over
unfolding codes outcome_line
returns-in-Over c = rw c.in-Over.is c.put_line-in-Over.ensures

pub returns-in-NoTree : goal.returns-in-NoTree
unfolding codes outcome_line
returns-in-NoTree c = rw c.in-NoTree.is c.put_bytes.ensures
