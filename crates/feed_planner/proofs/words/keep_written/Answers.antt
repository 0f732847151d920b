-- The word is set where something was written. Assumes nothing.
use Rattle.instance.proofs.RefusalLaws.{eqb_0}
use Rattle.feed_planner.proofs.words.keep_written.Goals as goal

pub returns-in-Err : goal.returns-in-Err
returns-in-Err c = (rw c.in-Err.is c.from.ensures, rw (c.in-Err.is, eqb_0 c.in-Err.refusal))
