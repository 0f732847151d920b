-- One test after the other. Assumes nothing.
use Rattle.price_format.specs.Writing.{place_ok}
use Rattle.price_list.proofs.write.place_ok.Goals as goal

pub returns-then-is_written : goal.returns-then-is_written
unfolding place_ok
returns-then-is_written c = let a = c.is_written in rw (← a.ensures, c.if-is_written.true)

pub returns : goal.returns
unfolding place_ok
returns c = let a = c.is_written in rw (← a.ensures, c.if-is_written.false)
