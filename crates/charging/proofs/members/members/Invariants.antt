-- `charging::members::members` meets its contract. The loop has gathered the group's vertices below v. Assumes nothing.
use Prim.Native.Nat.{◌≤◌}
use Rattle.charging.specs.Members.{Members}
use Rattle.charging.proofs.members.members.Given as goal

abbrev pub invariant-loop-v : goal.invariant-loop-v
invariant-loop-v l = (l.v ≤ l.n) × Members l.label l.v l.group l.set
