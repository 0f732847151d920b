-- The sum of the pieces that were passed. Assumes nothing.
use mathlib.Core.Path.{◌≡◌}
use Prim.Native.Nat.{◌*◌, ◌≤◌}
use lib.ListN.{length}
use Rattle.base.specs.Lists.{join_below}
use Rattle.price_format.specs.Writing.{price_at, place_text}
use Rattle.price_list.proofs.write.list_length.Given as goal

abbrev pub invariant-loop-k : goal.invariant-loop-k
invariant-loop-k l = (l.k ≤ l.total) × (l.sum ≤ 33 * l.k) × (l.sum ≡ length (join_below l.k (λ i. place_text l.n l.root i (price_at l.prices i))))
