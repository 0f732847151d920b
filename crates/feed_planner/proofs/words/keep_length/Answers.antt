-- The word is set where the answer is 0. Assumes nothing.
use mathlib.Core.Path.{refl}
use borrow.Author.Tests.{eq-eqb, ne_eqb}
use Rattle.feed_planner.proofs.words.keep_length.Goals as goal

pub returns-then-answer-eq0 : goal.returns-then-answer-eq0
returns-then-answer-eq0 c = (refl, rw (eq-eqb _ 0 c.if-answer-eq0.true))

pub returns-else-answer-eq0 : goal.returns-else-answer-eq0
returns-else-answer-eq0 c = (refl, rw (ne_eqb _ 0 c.if-answer-eq0.false))
