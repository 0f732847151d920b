-- Every place that was passed has passed the test. Assumes nothing.
use Prim.Native.Nat.{◌*◌, ◌<◌}
use lib.ListN.{take}
use Rattle.prim.specs.Place.{Placed}
use Rattle.prim.proofs.TreeLaws.{Zeros}
use Rattle.prim.proofs.tree.has_pinned.Given as goal

abbrev pub invariant-loop : goal.invariant-loop
invariant-loop l = (l.counter < l.n * l.n → Placed l.n l.counter l.place.row l.place.column) × Zeros l.keys l.n (take l.n l.parents) l.counter
