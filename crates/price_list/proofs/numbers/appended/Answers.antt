-- Within the cap the sum itself, else the cap. Assumes nothing.
use mathlib.Core.Path.{sym}
use native.Mathlib.Omega.{arith}
use Rattle.price_format.proofs.NumberLaws.{digit_range}
use Rattle.price_list.proofs.NumberLaws.{capped_low, capped_high}
use Rattle.price_list.proofs.numbers.appended.Goals as goal

pub overflow_sub-longer : goal.overflow_sub-longer
overflow_sub-longer c = omega (arith, digit_range c.args.b c.requires.1)

pub returns-then-longer-le-CAP : goal.returns-then-longer-le-CAP
returns-then-longer-le-CAP c = sym (capped_low _ c.if-longer-le-CAP.true)

pub returns : goal.returns
returns c = sym (capped_high _ (omega arith))
