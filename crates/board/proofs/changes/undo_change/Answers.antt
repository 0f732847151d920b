-- `undo_change` is the definition: the record under the count, if there is one. Assumes nothing.
use borrow.Author.Tests.{eq-eqb, ne_eqb}
use Rattle.board.specs.Changes.{undo_change}
use Rattle.board.proofs.changes.undo_change.Goals as goal

pub returns-then-b-eq0 : goal.returns-then-b-eq0
unfolding undo_change
returns-then-b-eq0 c = rw (eq-eqb _ _ c.if-b-eq0.true)

pub returns : goal.returns
unfolding undo_change
returns c = rw (ne_eqb _ _ c.if-b-eq0.false)
