-- The two bounds, one after the other. Assumes nothing.
use borrow.Author.Tests.{lt-leb, le-leb}
use Rattle.price_format.specs.Numbers.{is_digit}
use Rattle.price_list.proofs.numbers.is_digit.Goals as goal

pub returns-then-b-lt48 : goal.returns-then-b-lt48
unfolding is_digit
returns-then-b-lt48 c = simp (lt-leb 48 c.args.b c.if-b-lt48.true)

pub returns : goal.returns
unfolding is_digit
returns c = simp (le-leb 48 c.args.b c.if-b-lt48.false)
