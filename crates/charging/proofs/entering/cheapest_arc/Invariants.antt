-- `charging::entering::cheapest_arc` meets its contract: the loop keeps the cheapest arc into the vertices passed.
-- Assumes nothing.
use Prim.Native.Nat.{◌≤◌}
use Rattle.charging.specs.Entering.{CheapestArc}
use Rattle.charging.proofs.entering.cheapest_arc.Given as goal

abbrev pub invariant-loop-h : goal.invariant-loop-h
invariant-loop-h l = (l.h ≤ l.n) × CheapestArc l.w l.label l.n l.g.0 l.h l.best
