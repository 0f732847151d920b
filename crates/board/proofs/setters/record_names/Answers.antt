-- `record_names` is the definition, by what was replaced. Assumes nothing.
use borrow.Author.Tests.{ne_eqb, eq-eqb}
use Rattle.commands.specs.Setters.{record_names}
use Rattle.board.proofs.setters.record_names.Goals as goal

pub returns-then-tail-own_tail : goal.returns-then-tail-own_tail
unfolding record_names
returns-then-tail-own_tail c = rw (c.in-OldMark.is, ne_eqb _ _ c.if-tail-own_tail.true)

pub returns-then-tail-own_tail-2 : goal.returns-then-tail-own_tail-2
unfolding record_names
returns-then-tail-own_tail-2 c = rw (c.in-OldMarks.is, ne_eqb _ _ c.if-tail-own_tail-2.true)

pub returns-else-tail-own_tail : goal.returns-else-tail-own_tail
unfolding record_names
returns-else-tail-own_tail c = rw (c.in-OldMark.is, eq-eqb _ _ c.if-tail-own_tail.false)

pub returns-in-OldBudget : goal.returns-in-OldBudget
unfolding record_names
returns-in-OldBudget c = rw c.in-OldBudget.is

pub returns-else-tail-own_tail-2 : goal.returns-else-tail-own_tail-2
unfolding record_names
returns-else-tail-own_tail-2 c = rw (c.in-OldMarks.is, eq-eqb _ _ c.if-tail-own_tail-2.false) c.is_inside.ensures
