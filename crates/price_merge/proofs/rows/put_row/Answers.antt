-- The loop has copied the numbers that it passed, as bytes are put into a text.
use mathlib.Core.Path.{refl}
use lib.ListN.{length-set}
use Rattle.text.proofs.BufferLaws.{puts_none, copied_next}
use Rattle.price_merge.proofs.rows.put_row.Goals as goal

pub loop-w-init : goal.loop-w-init
loop-w-init c = (puts_none _ _, refl)

pub loop-w-preserved : goal.loop-w-preserved
loop-w-preserved c =
    let l = c.loop-w in
    (copied_next _ l.w-index l.invariant.0 c.loop-w-test.true c.requires, simp length-set l.invariant.1)
