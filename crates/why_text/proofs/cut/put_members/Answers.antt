-- The loop has written the vertices that it passed. Assumes nothing.
use mathlib.Core.Path.{refl, ◌∙◌}
use native.Mathlib.Omega.{arith}
use Rattle.text.proofs.JoinLaws.{join_none, join_room, join_next}
use Rattle.why_text.proofs.cut.put_members.Goals as goal

pub loop-v-init : goal.loop-v-init
loop-v-init c = (join_none _ _ _, omega arith, refl)

pub put_member-next-requires : goal.put_member-next-requires
put_member-next-requires c =
    let i = c.loop-v in
    record { v_lt_max_vertices = omega (arith, c.requires.n_le_max_vertices); room = join_room _ _ i.v c.requires.room c.loop-v-test.true i.invariant.0 }

pub loop-v-preserved : goal.loop-v-preserved
loop-v-preserved c =
    let i = c.loop-v in
    let test = c.loop-v-test.true in
    (join_next _ _ i.v c.requires.room test i.invariant.0 c.put_member-next.ensures, omega arith, c.put_member-next.auto.out ∙ i.invariant.2)
