-- No tail below t can be had. Assumes nothing.
use Prim.Native.Nat.{◌≤◌}
use lib.ListN.{take}
use Rattle.instance.specs.Matrix.{unmarked}
use Rattle.narrowing.specs.Narrowed.{NoneBelow}
use Rattle.first_tree.proofs.least_parent.Given as goal

abbrev pub invariant-loop-t : goal.invariant-loop-t
invariant-loop-t l = (l.t ≤ l.own) × NoneBelow (unmarked l.search.n l.search.root l.search.m.now) l.search.total l.vertex (take l.search.n l.parents) l.t
