-- `is_head_ok` is the definition, test by test. Assumes nothing.
use borrow.Author.Tests.{not-true, not-false}
use Rattle.base.specs.Digits.{digit}
use Rattle.commands.specs.Valid.{head_ok}
use Rattle.heads.proofs.LoopLaws.{four_pow}
use Rattle.heads.proofs.arcs.is_head_ok.Goals as goal

pub returns-then-not-is_inside : goal.returns-then-not-is_inside
unfolding head_ok
returns-then-not-is_inside c = simp (← c.is_inside.ensures, not-true c.is_inside.result c.if-not-is_inside.true-raw)

pub returns-then-not-is_arc : goal.returns-then-not-is_arc
unfolding head_ok
returns-then-not-is_arc c = simp (← c.is_inside.ensures, not-false c.is_inside.result c.if-not-is_inside.false-raw, ← c.is_arc.ensures, not-true c.is_arc.result c.if-not-is_arc.true-raw)

pub returns : goal.returns
unfolding head_ok digit
returns c = simp (← c.is_inside.ensures, not-false c.is_inside.result c.if-not-is_inside.false-raw, ← c.is_arc.ensures, not-false c.is_arc.result c.if-not-is_arc.false-raw, four_pow c.args.head)
