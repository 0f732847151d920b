-- One press after the other; what is made so far and what is left are the whole list. Assumes nothing.
use Rattle.board.specs.ModelOf.{model_of}
use Rattle.feed_planner.proofs.PressListLaws.{PressedSoFar}
use Rattle.feed_planner.proofs.press_lists.press_all.Given as goal

abbrev pub invariant-loop-i : goal.invariant-loop-i
invariant-loop-i l = PressedSoFar l.kinds l.firsts l.seconds (model_of l.fn.b) l.b l.i
