-- Each turn takes the last digit off: the digits counted and those of the rest are the number's. Assumes nothing.
use native.Mathlib.Omega.{arith}
use Rattle.text.proofs.DecimalLaws.{length_few, length_more, decimal_length}
use Rattle.text.proofs.decimal.decimal_length.Goals as goal

pub overflow_add-digits : goal.overflow_add-digits
overflow_add-digits c =
    let l = c.loop-rest in
    let e = decimal_length 10 c.args.v (omega arith) (omega (arith, c.ranges.v.fits)) in
    omega (arith, l.invariant.0)

pub loop-rest-preserved : goal.loop-rest-preserved
loop-rest-preserved c =
    let l = c.loop-rest in
    let e = length_more l.rest c.loop-rest-test.true l.invariant.1 in
    (omega (arith, l.invariant.0), omega (arith, l.invariant.1))

pub returns : goal.returns
returns c = let l = c.loop-rest in let e = length_few l.rest c.loop-rest-test.false in omega (arith, l.invariant.0)
