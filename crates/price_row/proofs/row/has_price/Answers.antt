-- One number after the other, up to the first that is not "no link". Assumes nothing.
use mathlib.Core.Path.{refl, sym, ap, ◌∙◌}
use mathlib.Core.Bool.{not}
use lib.ListN.{get_or}
use borrow.Author.Tests.{eq-eqb, ne_eqb}
use Rattle.base.proofs.ElementLaws.{any_of_here, any_of_next, any_of_end}
use Rattle.instance.specs.Limits.{no_arc}
use Rattle.price_row.specs.Row.{has_price}
use Rattle.price_row.proofs.row.has_price.Goals as goal
use Rattle.price_row.proofs.row.has_price.Invariants.{priced}

pub loop-w-init : goal.loop-w-init
unfolding has_price
loop-w-init c = refl

pub returns-then-w-ne-NO_ARC : goal.returns-then-w-ne-NO_ARC
returns-then-w-ne-NO_ARC c =
    let row = c.args.row.now in
    let l = c.loop-w in
    sym (l.invariant ∙ any_of_here priced 0 row l.w-index c.loop-w-test.true (ap not (ne_eqb (get_or row l.w-index 0) no_arc c.if-w-ne-NO_ARC.true)))

pub loop-w-preserved : goal.loop-w-preserved
loop-w-preserved c =
    let row = c.args.row.now in
    let l = c.loop-w in
    l.invariant ∙ any_of_next priced 0 row l.w-index c.loop-w-test.true (ap not (eq-eqb (get_or row l.w-index 0) no_arc c.if-w-ne-NO_ARC.false))

pub returns : goal.returns
returns c =
    let row = c.args.row.now in
    let l = c.loop-w in
    sym (l.invariant ∙ any_of_end priced 0 row l.w-index c.loop-w-test.false)
