-- `reaches_root` goes from parent to parent: whether the root is met in the steps that are left decides. Assumes
-- nothing.
use mathlib.Core.Path.{◌≡◌}
use Prim.Native.Nat.{◌-◌}
use lib.ListN.{take}
use Rattle.instance.specs.Arborescence.{reaches}
use Rattle.verifier.proofs.tree.reaches_root.Given as goal

abbrev pub invariant-loop : goal.invariant-loop
invariant-loop l = reaches l.arcs.n l.arcs.root (take l.arcs.n l.parents) l.vertex ≡ reaches (l.arcs.n - l.counter) l.arcs.root (take l.arcs.n l.parents) l.v
