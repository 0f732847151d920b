-- The path is followed as long as it comes by vertices below this one, where every tree that begins alike has the same
-- parents; a parent is less deep. Assumes nothing.
use mathlib.Core.List.{List}
use Prim.Native.Nat.{ℕ, ◌<◌}
use lib.ListN.{take}
use Rattle.paths.specs.Paths.{Descends}
use Rattle.paths.proofs.PathLaws.{depth}
use Rattle.narrowing.specs.Narrowed.{Agree}
use Rattle.first_tree.proofs.attempt.leads_back.Given as goal

abbrev pub invariant-loop-v : goal.invariant-loop-v
invariant-loop-v l =
    (l.v < l.n) × ((qs : List ℕ) → Agree l.vertex (take l.n l.parents) qs → Descends qs l.vertex l.v → Descends qs l.vertex l.tail)

abbrev pub decreases-loop-v : goal.decreases-loop-v
decreases-loop-v l = depth l.n l.root (take l.n l.parents) l.v
