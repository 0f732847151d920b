-- Each way out answers with the test that led there. Assumes nothing.
use borrow.Author.Tests.{eq-eqb, ne_eqb}
use Rattle.witness.specs.Witness.{is_rival}
use Rattle.witness.proofs.is_rival_tail.Goals as goal

pub returns-then-other-tail : goal.returns-then-other-tail
unfolding is_rival
returns-then-other-tail c = rw (eq-eqb _ _ c.if-other-tail.true)

pub returns : goal.returns
unfolding is_rival
returns c = rw (ne_eqb _ _ c.if-other-tail.false) c.is_pinned.ensures
