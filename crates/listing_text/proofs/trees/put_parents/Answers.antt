-- The loop has written the parents of the vertices that it passed. Assumes nothing.
use mathlib.Core.Path.{refl, ◌∙◌}
use native.Mathlib.Omega.{arith}
use Rattle.base.proofs.ListLaws.{default}
use Rattle.instance.specs.Limits.{no_parent}
use Rattle.text.proofs.JoinLaws.{join_none, join_room, join_next}
use Rattle.listing_text.specs.Trees.{parent_text}
use Rattle.listing_text.proofs.trees.put_parents.Goals as goal

pub loop-v-init : goal.loop-v-init
loop-v-init c = (join_none _ _ _, omega arith, refl)

pub put_labelled-next-requires : goal.put_labelled-next-requires
unfolding parent_text
put_labelled-next-requires c =
    let i = c.loop-v in
    rw (default c.args.parents.now i.v 0 no_parent (omega arith))
    (join_room _ _ i.v c.requires.room c.loop-v-test.true i.invariant.0)

pub loop-v-preserved : goal.loop-v-preserved
unfolding parent_text
loop-v-preserved c =
    let i = c.loop-v in
    let e = default c.args.parents.now i.v 0 no_parent (omega arith) in
    (join_next _ _ i.v c.requires.room c.loop-v-test.true i.invariant.0 (rw e at c.put_labelled-next.ensures), omega arith, c.put_labelled-next.auto.out ∙ i.invariant.2)
