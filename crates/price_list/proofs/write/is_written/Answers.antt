-- One test after the other. Assumes nothing.
use Rattle.price_format.specs.Writing.{is_written}
use Rattle.price_list.proofs.write.is_written.Goals as goal

pub returns-then-can_be_arc : goal.returns-then-can_be_arc
unfolding is_written
returns-then-can_be_arc c = let a = c.can_be_arc in rw (← a.ensures, c.if-can_be_arc.true)

pub returns : goal.returns
unfolding is_written
returns c = let a = c.can_be_arc in rw (← a.ensures, c.if-can_be_arc.false)
