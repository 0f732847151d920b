-- `closes_cycle` goes from parent to parent: whether v is met in the steps that are left decides. Assumes nothing.
use mathlib.Core.Path.{◌≡◌}
use Prim.Native.Nat.{◌-◌}
use lib.ListN.{take}
use Rattle.instance.specs.Arborescence.{reaches}
use Rattle.backtracking.proofs.cycle.closes_cycle.Given as goal

abbrev pub invariant-loop : goal.invariant-loop
invariant-loop l = reaches l.n l.v (take l.v l.parents) l.t ≡ reaches (l.n - l.counter) l.v (take l.v l.parents) l.at
