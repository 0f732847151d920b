-- `charging::members::members` meets its contract. The loop has gathered the group's vertices below v. Assumes nothing.
use native.Mathlib.Omega.{arith}
use Rattle.charging.proofs.MembersLaws.{one_member, no_member}
use Rattle.charging.proofs.members.members.Goals as goal
use Rattle.charging.proofs.members.members.Goals.{else-label-v, then-label-v}

pub loop-v-preserved : goal.loop-v-preserved
loop-v-preserved c = (
  omega arith,
  elim c.if-label-v.branch [ then-label-v w ↦ rw w.set-is (one_member _ _ _ _ c.loop-v.invariant.1 (omega arith) w.if-label-v.true) | else-label-v w ↦ rw w.set-is (no_member _ _ _ _ c.loop-v.invariant.1 (omega arith) w.if-label-v.false) ],
)
