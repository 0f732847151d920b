-- The cells that were passed are written, and the others are as they were. Assumes nothing.
use mathlib.Core.Path.{◌≡◌}
use mathlib.Core.List.{◌++◌}
use Prim.Native.Nat.{◌/◌, ◌%◌, ◌≤◌}
use lib.ListN.{length, drop}
use Rattle.base.specs.Lists.{tabulate}
use Rattle.states.specs.Show.{state_by}
use Rattle.states.proofs.show.write_states.Given as goal

abbrev pub invariant-loop-k : goal.invariant-loop-k
invariant-loop-k l =
    (l.k ≤ l.total) × (length l.out ≡ length l.initial.out) × (l.out ≡ tabulate l.k (λ i. state_by l.used l.weights l.n l.root (i / l.n) (i % l.n)) ++ drop l.k l.initial.out)
