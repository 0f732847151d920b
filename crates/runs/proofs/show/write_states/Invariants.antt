-- The places that were passed are written, and the others are as they were. Assumes nothing.
use mathlib.Core.Path.{◌≡◌}
use mathlib.Core.List.{◌++◌}
use Prim.Native.Nat.{◌*◌, ◌<◌}
use lib.ListN.{length, take, drop}
use Rattle.base.specs.Lists.{tabulate}
use Rattle.prim.specs.Place.{Placed}
use Rattle.runs.specs.Show.{place_state}
use Rattle.runs.proofs.show.write_states.Given as goal

abbrev pub invariant-loop-k : goal.invariant-loop-k
invariant-loop-k l =
    (l.k < l.shown.n * l.shown.n → Placed l.shown.n l.k l.place.row l.place.column)
    × (length l.states ≡ length l.initial.states)
    × (l.states ≡ tabulate l.k (place_state l.weights l.shown.keys.now l.shown.n (take l.shown.n l.shown.parents.now) l.shown.total l.shown.limit) ++ drop l.k l.initial.states)
