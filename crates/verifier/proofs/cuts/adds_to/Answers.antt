-- `adds_to` counts the total down: the values of the cuts that are left are held against what is left. Assumes
-- nothing.
use mathlib.Core.Path.{sym}
use Rattle.verifier.proofs.CutsLaws.{adding_less, adding_past, adding_none}
use Rattle.verifier.proofs.cuts.adds_to.Goals as goal

pub returns-then-rest-value : goal.returns-then-rest-value
returns-then-rest-value c = let l = c.loop-value in sym (adding_past c.args.cuts.now c.args.total l.value-index l.rest c.loop-value-test.true l.invariant c.if-rest-value.true)

pub loop-value-preserved : goal.loop-value-preserved
loop-value-preserved c = let l = c.loop-value in adding_less c.args.cuts.now c.args.total l.value-index l.rest c.loop-value-test.true l.invariant c.if-rest-value.false

pub returns : goal.returns
returns c = let l = c.loop-value in sym (adding_none c.args.cuts.now c.args.total l.value-index l.rest c.loop-value-test.false l.invariant)
