-- Each way out answers with the tests that led there. Assumes nothing.
use borrow.Author.Tests.{lt-ltb, le-ltb}
use Rattle.planner.specs.Replaying.{lists_short}
use Rattle.planner.proofs.replaying.are_lists_short.Goals as goal

pub returns-then-firsts-kinds : goal.returns-then-firsts-kinds
unfolding lists_short
returns-then-firsts-kinds c = simp (lt-ltb _ _ c.if-firsts-kinds.true)

pub returns-then-seconds-kinds : goal.returns-then-seconds-kinds
unfolding lists_short
returns-then-seconds-kinds c = simp (le-ltb _ _ c.if-firsts-kinds.false, lt-ltb _ _ c.if-seconds-kinds.true)

pub returns : goal.returns
unfolding lists_short
returns c = simp (le-ltb _ _ c.if-firsts-kinds.false, le-ltb _ _ c.if-seconds-kinds.false)
