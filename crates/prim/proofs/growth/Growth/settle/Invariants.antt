-- The vertices that were passed have the nearer parent, and the others what they had. Assumes nothing.
use mathlib.Core.Path.{◌≡◌}
use mathlib.Core.Bool.{true}
use Prim.Native.Nat.{◌≤◌}
use lib.ListN.{set}
use Rattle.prim.specs.Growth.{JoinedBelow}
use Rattle.prim.proofs.growth.Growth.settle.Given as goal

pub record SettlesBelow (l : goal.Live-loop-w) : Type 0 where
  pub passed : l.w ≤ l.self.n
  pub n : l.self.n ≡ l.fn.self.n
  pub settled : l.self.settled ≡ set l.fn.self.settled l.v true
  pub parents : JoinedBelow l.keys l.self.settled l.v l.w l.fn.self.parents l.self.parents

abbrev pub invariant-loop-w : goal.invariant-loop-w
invariant-loop-w l = SettlesBelow l
