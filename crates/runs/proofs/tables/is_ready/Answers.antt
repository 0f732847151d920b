-- By the two flags. Assumes nothing.
use Rattle.runs.specs.Tables.{is_ready}
use Rattle.runs.proofs.tables.is_ready.Goals as goal

pub returns-then-not-done-v : goal.returns-then-not-done-v
unfolding is_ready
returns-then-not-done-v c = rw c.if-not-done-v.true

pub returns-else-not-done-v : goal.returns-else-not-done-v
unfolding is_ready
returns-else-not-done-v c = rw c.if-not-done-v.false
