-- The places that were passed hold the weights of the table. Assumes nothing.
use mathlib.Core.Path.{◌≡◌}
use mathlib.Core.List.{◌++◌}
use Prim.Native.Nat.{◌/◌, ◌%◌, ◌≤◌}
use lib.ListN.{length, get_or, drop}
use Rattle.base.specs.Lists.{tabulate}
use Rattle.instance.specs.Instance.{cell}
use Rattle.price_list.proofs.read.copy_prices.Given as goal

abbrev pub invariant-loop-k : goal.invariant-loop-k
invariant-loop-k l = (l.k ≤ l.total) × (length l.prices ≡ length l.initial.prices) × (l.prices ≡ tabulate l.k (λ i. get_or l.table (cell (i / l.n) (i % l.n)) 0) ++ drop l.k l.initial.prices)
