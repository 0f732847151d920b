-- The pieces that were passed stand one behind the other. Assumes nothing.
use mathlib.Core.Path.{◌≡◌}
use Prim.Native.Nat.{◌≤◌}
use lib.ListN.{length}
use Rattle.base.specs.Lists.{join_below}
use Rattle.text.specs.Buffer.{Puts}
use Rattle.price_format.specs.Writing.{price_at, place_text}
use Rattle.price_list.proofs.write.put_list.Given as goal

abbrev pub invariant-loop-k : goal.invariant-loop-k
invariant-loop-k l =
    (l.k ≤ l.total) × Puts (join_below l.k (λ i. place_text l.n l.root i (price_at l.prices i))) l.initial.out l.out 0 l.at × (length l.out ≡ length l.initial.out)
