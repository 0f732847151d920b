-- The loop has put the rows of the tails that it passed.
use mathlib.Core.Path.{◌≡◌}
use Prim.Native.Nat.{◌≤◌}
use lib.ListN.{length}
use Rattle.base.specs.Lists.{join_below}
use Rattle.text.specs.Buffer.{Puts}
use Rattle.price_row.specs.Row.{row_used}
use Rattle.price_merge.proofs.rows.put_rows.Given as goal

abbrev pub invariant-loop-tail : goal.invariant-loop-tail
invariant-loop-tail l =
    Puts (join_below l.tail (λ t. row_used l.n t l.school l.shipped)) l.initial.out l.out 0 l.next × (l.tail ≤ l.n) × (length l.out ≡ length l.initial.out)
