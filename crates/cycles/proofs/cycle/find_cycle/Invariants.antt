-- `cycles::cycle::find_cycle` meets its contract. The inner loop's measure is the number of places with no stamp.
-- Assumes nothing.
use mathlib.Core.Path.{◌≡◌}
use Prim.Native.Nat.{◌≤◌}
use Rattle.std.specs.Prelude.{None}
use Rattle.cycles.proofs.CycleLaws.{zeros, Between, Walking}
use Rattle.cycles.proofs.cycle.find_cycle.Given as goal

abbrev pub invariant-loop-v : goal.invariant-loop-v
invariant-loop-v l = (l.found ≡ None) × Walking l.label l.tails l.n l.r l.stamp l.first l.now l.s l.v

abbrev pub decreases-loop-v : goal.decreases-loop-v
decreases-loop-v l = zeros l.stamp

abbrev pub invariant-starts : goal.invariant-starts
invariant-starts l = (l.s ≤ l.n) × (l.found ≡ None) × Between l.label l.tails l.n l.r l.stamp l.now l.s
