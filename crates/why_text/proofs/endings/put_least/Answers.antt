-- The test of the code is that of the definition. Assumes nothing.
use borrow.Author.Tests.{lt-ltb, le-ltb}
use Rattle.text.specs.Lines.{codes}
use Rattle.text.proofs.BufferLaws.{puts_none}
use Rattle.why_text.specs.Endings.{least_text}
use Rattle.why_text.proofs.endings.put_least.Goals as goal

pub put_amount-requires : goal.put_amount-requires
unfolding codes least_text
put_amount-requires c = rw (lt-ltb _ _ c.if-budget-least.true) at c.requires

pub returns-then-budget-least : goal.returns-then-budget-least
unfolding codes least_text
returns-then-budget-least c = rw (lt-ltb _ _ c.if-budget-least.true) c.put_amount.ensures

pub returns : goal.returns
unfolding least_text
returns c = rw (le-ltb _ _ c.if-budget-least.false) (puts_none _ _)
