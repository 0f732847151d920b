-- The loop has put the rows of the tails that it passed.
use mathlib.Core.Path.{◌≡◌, refl, ◌∙◌}
use native.Mathlib.Omega.{arith}
use Rattle.text.proofs.JoinLaws.{join_none, join_room, join_next}
use Rattle.price_merge.specs.Rows.{rows_used}
use Rattle.price_merge.proofs.rows.put_rows.Goals as goal

pub loop-tail-init : goal.loop-tail-init
loop-tail-init c = (join_none _ _ _, omega arith, refl)

pub put_row-next-requires : goal.put_row-next-requires
unfolding rows_used
put_row-next-requires c =
    let i = c.loop-tail in
    rw c.row_used-row.ensures.numbers (join_room _ _ i.tail c.requires c.loop-tail-test.true i.invariant.0)

pub loop-tail-preserved : goal.loop-tail-preserved
unfolding rows_used
loop-tail-preserved c =
    let i = c.loop-tail in
    let test = c.loop-tail-test.true in
    let row = c.row_used-row.ensures.numbers in
    let put = c.put_row-next in
    (join_next _ _ i.tail c.requires test i.invariant.0 (rw row at put.ensures), omega arith, put.auto.out ∙ i.invariant.2)

pub returns : goal.returns
unfolding rows_used
returns c = let e : c.loop-tail.tail ≡ c.args.n = omega arith in rw e at c.loop-tail.invariant.0
