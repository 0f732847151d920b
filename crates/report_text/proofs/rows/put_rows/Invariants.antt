-- The loop has written the rows that it passed. Assumes nothing.
use mathlib.Core.Path.{◌≡◌}
use Prim.Native.Nat.{◌≤◌}
use lib.ListN.{length}
use Rattle.base.specs.Lists.{join_below}
use Rattle.report_text.specs.Rows.{row_line}
use Rattle.text.specs.Buffer.{Puts}
use Rattle.report_text.proofs.rows.put_rows.Given as goal

abbrev pub invariant-loop-tail : goal.invariant-loop-tail
invariant-loop-tail l =
    Puts (join_below l.tail (row_line l.states l.n)) l.initial.out l.out l.at l.next × (l.tail ≤ l.n) × (length l.out ≡ length l.initial.out)
