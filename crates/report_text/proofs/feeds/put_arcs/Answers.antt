-- The loop has written the lines of the vertices that it passed. Assumes nothing.
use mathlib.Core.Path.{refl, ◌∙◌}
use native.Mathlib.Omega.{arith}
use Rattle.text.proofs.JoinLaws.{join_none, join_room, join_next}
use Rattle.report_text.proofs.feeds.put_arcs.Goals as goal

pub loop-v-init : goal.loop-v-init
loop-v-init c = (join_none _ _ _, omega arith, refl)

pub put_feed_at-next-requires : goal.put_feed_at-next-requires
put_feed_at-next-requires c =
    let i = c.loop-v in
    record { weights_len = c.requires.weights_len; v_in_bounds = omega arith; room = join_room _ _ i.v c.requires.room c.loop-v-test.true i.invariant.0 }

pub loop-v-preserved : goal.loop-v-preserved
loop-v-preserved c =
    let i = c.loop-v in
    let test = c.loop-v-test.true in
    (join_next _ _ i.v c.requires.room test i.invariant.0 c.put_feed_at-next.ensures, omega arith, c.put_feed_at-next.auto.out ∙ i.invariant.2)
