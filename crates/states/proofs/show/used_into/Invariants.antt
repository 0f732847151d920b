-- The count is that of the tails that were passed. Assumes nothing.
use mathlib.Core.Path.{◌≡◌}
use Prim.Native.Nat.{◌≤◌}
use Rattle.base.specs.Bounded.{count_below}
use Rattle.usable.specs.Table.{is_used}
use Rattle.states.proofs.show.used_into.Given as goal

abbrev pub invariant-loop-g : goal.invariant-loop-g
invariant-loop-g l = (l.g ≤ l.n) × (l.count ≤ l.g) × (l.count ≡ count_below l.g (λ t. is_used l.used t l.head))
