-- The path stays among the descendants of the head, so it does not come to the root; a parent is less deep. Assumes
-- nothing.
use Prim.Native.Nat.{◌<◌}
use lib.ListN.{take}
use Rattle.paths.specs.Paths.{Descends, OnPath}
use Rattle.detours.specs.Detours.{PathLeast}
use Rattle.paths.proofs.PathLaws.{depth}
use Rattle.detours.proofs.path_least.Given as goal

abbrev pub invariant-loop-v : goal.invariant-loop-v
invariant-loop-v l =
    (l.v < l.n) × Descends (take l.n l.parents) l.head l.v × OnPath (take l.n l.parents) l.tail l.head l.v × PathLeast (take l.n l.parents) l.table l.tail l.head l.least

abbrev pub decreases-loop-v : goal.decreases-loop-v
decreases-loop-v l = depth l.n l.root (take l.n l.parents) l.v
