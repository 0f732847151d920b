-- Each way out answers with the tests that led there; n times n is at most 1,024. Assumes nothing.
use native.Mathlib.Omega.{arith}
use borrow.Author.Tests.{lt-ltb, le-ltb}
use Rattle.base.proofs.GridLaws.{square_most}
use Rattle.planner.specs.Looking.{too_short}
use Rattle.planner.proofs.looking.is_too_short.Goals as goal

pub returns-then-parents-n : goal.returns-then-parents-n
unfolding too_short
returns-then-parents-n c = simp (lt-ltb _ _ c.if-parents-n.true)

pub overflow_mul-n : goal.overflow_mul-n
overflow_mul-n c = omega (arith, square_most c.args.n 32 (omega arith))

pub overflow_cast-n-2 : goal.overflow_cast-n-2
overflow_cast-n-2 c = omega (arith, square_most c.args.n 32 (omega arith))

pub returns-then-states-n : goal.returns-then-states-n
unfolding too_short
returns-then-states-n c = simp (le-ltb _ _ c.if-parents-n.false, lt-ltb _ _ c.if-states-n.true)

pub returns : goal.returns
unfolding too_short
returns c = simp (le-ltb _ _ c.if-parents-n.false, le-ltb _ _ c.if-states-n.false)
