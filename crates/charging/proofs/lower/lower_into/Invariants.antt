-- `charging::lower::lower_into` meets its contract: the arcs from the tails passed are lowered. Assumes nothing.
use Prim.Native.Nat.{◌≤◌}
use Rattle.charging.specs.Lower.{LoweredInto}
use Rattle.charging.proofs.lower.lower_into.Given as goal

abbrev pub invariant-loop-t : goal.invariant-loop-t
invariant-loop-t l = (l.t ≤ l.n) × LoweredInto l.initial.w l.w l.label l.t l.group l.h l.value
