-- The places that were passed are written, and the others are as they were. Assumes nothing.
use mathlib.Core.Path.{◌≡◌}
use mathlib.Core.List.{◌++◌}
use Prim.Native.Nat.{◌*◌, ◌<◌}
use lib.ListN.{length, get_or, take, drop}
use Rattle.base.specs.Lists.{tabulate}
use Rattle.prim.specs.Place.{Placed}
use Rattle.runs.specs.Show.{cost_at}
use Rattle.runs.proofs.show.write_costs.Given as goal

abbrev pub invariant-loop-k : goal.invariant-loop-k
invariant-loop-k l =
    (l.k < l.n * l.n → Placed l.n l.k l.place.row l.place.column)
    × (length l.out ≡ length l.initial.out)
    × (l.out ≡ tabulate l.k (cost_at (take l.n l.parents) (λ v. get_or l.costs v 0) l.n) ++ drop l.k l.initial.out)
