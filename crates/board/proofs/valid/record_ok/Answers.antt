-- `record_ok` is the definition, by what was replaced. Assumes nothing.
use Rattle.commands.specs.Valid.{record_ok}
use Rattle.board.proofs.valid.record_ok.Goals as goal

pub returns-then-is_arc : goal.returns-then-is_arc
unfolding record_ok
returns-then-is_arc c = rw c.in-OldMark.is (simp (← c.is_arc.ensures, c.if-is_arc.true))

pub returns-else-is_arc : goal.returns-else-is_arc
unfolding record_ok
returns-else-is_arc c = rw c.in-OldMark.is (simp (← c.is_arc.ensures, c.if-is_arc.false))

pub returns-in-OldBudget : goal.returns-in-OldBudget
unfolding record_ok
returns-in-OldBudget c = rw c.in-OldBudget.is
