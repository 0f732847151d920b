-- The loop has written the states that it passed. Assumes nothing.
use mathlib.Core.Path.{refl, ◌∙◌}
use native.Mathlib.Omega.{arith}
use Rattle.text.proofs.JoinLaws.{join_none, join_room, join_next}
use Rattle.report_text.proofs.rows.put_states.Goals as goal

pub loop-h-init : goal.loop-h-init
loop-h-init c = (join_none _ _ _, omega arith, refl)

pub put_decimal-next-requires : goal.put_decimal-next-requires
put_decimal-next-requires c =
    let i = c.loop-h in
    join_room _ _ i.h c.requires.room c.loop-h-test.true i.invariant.0

pub loop-h-preserved : goal.loop-h-preserved
loop-h-preserved c =
    let i = c.loop-h in
    let test = c.loop-h-test.true in
    (join_next _ _ i.h c.requires.room test i.invariant.0 c.put_decimal-next.ensures, omega arith, c.put_decimal-next.auto.out ∙ i.invariant.2)
