-- The places that were passed are written, and the others are as they were. Assumes nothing.
use mathlib.Core.Path.{◌≡◌}
use mathlib.Core.List.{◌++◌}
use lib.ListN.{length, drop}
use Rattle.base.specs.Lists.{tabulate}
use Rattle.runs.specs.Show.{closed_state}
use Rattle.runs.proofs.show.write_closed.Given as goal

abbrev pub invariant-loop-k : goal.invariant-loop-k
invariant-loop-k l = (length l.states ≡ length l.initial.states) × (l.states ≡ tabulate l.k (closed_state l.weights l.n) ++ drop l.k l.initial.states)
