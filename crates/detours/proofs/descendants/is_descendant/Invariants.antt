-- The path goes on as long as neither the head nor the root is met; a parent is less deep. Assumes nothing.
use Prim.Native.Nat.{◌<◌}
use lib.ListN.{take}
use Rattle.paths.specs.Paths.{Descends, Avoids}
use Rattle.paths.proofs.PathLaws.{depth}
use Rattle.detours.proofs.descendants.is_descendant.Given as goal

abbrev pub invariant-loop-v : goal.invariant-loop-v
invariant-loop-v l =
    (l.v < l.n) × (Descends (take l.n l.parents) l.head l.v → Descends (take l.n l.parents) l.head l.vertex) × (Avoids (take l.n l.parents) l.head l.v → Avoids (take l.n l.parents) l.head l.vertex)

abbrev pub decreases-loop-v : goal.decreases-loop-v
decreases-loop-v l = depth l.n l.root (take l.n l.parents) l.v
