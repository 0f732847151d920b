-- `is_arborescence` tries the vertices from the last down: those below decide. Assumes nothing.
use mathlib.Core.Path.{◌≡◌}
use Prim.Native.Nat.{◌≤◌}
use lib.ListN.{take}
use Rattle.base.specs.Bounded.{all_below}
use Rattle.instance.specs.Arborescence.{parent_ok, is_arborescence as arborescence}
use Rattle.instance.specs.Matrix.{unmarked}
use Rattle.verifier.proofs.tree.is_arborescence.Given as goal

abbrev pub invariant-loop-v : goal.invariant-loop-v
invariant-loop-v l =
    (l.v ≤ l.arcs.n) × (arborescence (unmarked l.arcs.n l.arcs.root l.arcs.weights.now) (take l.arcs.n l.parents) ≡ all_below l.v (parent_ok (unmarked l.arcs.n l.arcs.root l.arcs.weights.now) (take l.arcs.n l.parents)))
