-- One test. Assumes nothing.
use borrow.Author.Tests.{eq-eqb, ne_eqb}
use Rattle.print_card.proofs.judge.feed_count.Goals as goal

pub returns-then-b-eq10 : goal.returns-then-b-eq10
returns-then-b-eq10 c = rw (eq-eqb _ _ c.if-b-eq10.true)

pub returns : goal.returns
returns c = rw (ne_eqb _ _ c.if-b-eq10.false)
