-- Of the vertices that were passed, the best has the least key. Assumes nothing.
use Prim.Native.Nat.{◌≤◌}
use Rattle.prim.specs.Growth.{PickedBelow}
use Rattle.prim.proofs.growth.Growth.pick.Given as goal

abbrev pub invariant-loop-v : goal.invariant-loop-v
invariant-loop-v l = (l.v ≤ l.self.n) × PickedBelow l.keys l.self.settled l.self.parents l.v l.best l.least
