-- `charging::lower::lower_arcs` meets its contract: the arcs into the vertices passed are lowered. Assumes nothing.
use Prim.Native.Nat.{◌≤◌}
use Rattle.charging.specs.Lower.{LoweredCells}
use Rattle.charging.proofs.lower.lower_arcs.Given as goal

abbrev pub invariant-loop-h : goal.invariant-loop-h
invariant-loop-h l = (l.h ≤ l.n) × LoweredCells l.initial.w l.w l.label l.n l.g.0 l.value l.h
