-- Each way out by the tests that led there; n times n is at most 1,024. Assumes nothing.
use native.Mathlib.Omega.{arith}
use borrow.Author.Tests.{lt-ltb, le-ltb}
use Rattle.base.proofs.GridLaws.{square_most}
use Rattle.feed_planner.specs.Sheets.{sheet_short}
use Rattle.feed_planner.proofs.sheets.is_sheet_short.Goals as goal

pub overflow_mul-size : goal.overflow_mul-size
overflow_mul-size c = omega (arith, square_most c.args.n 32 c.requires)

pub overflow_cast-size : goal.overflow_cast-size
overflow_cast-size c = omega (arith, square_most c.args.n 32 c.requires)

pub returns-then-prices-size : goal.returns-then-prices-size
unfolding sheet_short
returns-then-prices-size c = simp (lt-ltb _ _ c.if-prices-size.true)

pub returns : goal.returns
unfolding sheet_short
returns c = simp (le-ltb _ _ c.if-prices-size.false)
