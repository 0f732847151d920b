-- `charging::entering::cheapest_into` meets its contract: the loop keeps the cheapest arc among the tails passed.
-- Assumes nothing.
use Prim.Native.Nat.{◌≤◌}
use Rattle.charging.proofs.EnteringLaws.{CheapestSoFar}
use Rattle.charging.proofs.entering.cheapest_into.Given as goal

abbrev pub invariant-loop-t : goal.invariant-loop-t
invariant-loop-t l = (l.t ≤ l.n) × CheapestSoFar l.w l.label l.n l.group l.h l.t l.cheapest
