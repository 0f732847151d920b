-- The cells of the tails that were passed are taken out. Assumes nothing.
use Prim.Native.Nat.{◌≤◌}
use Rattle.usable.specs.Forced.{ForcedMatrix}
use Rattle.usable.proofs.forced.force_arc.Given as goal

abbrev pub invariant-loop-g : goal.invariant-loop-g
invariant-loop-g l = (l.g ≤ l.n) × ForcedMatrix l.initial.w l.w l.g l.tail l.head
