-- The loop has written the states that it passed. Assumes nothing.
use mathlib.Core.Path.{◌≡◌}
use Prim.Native.Nat.{◌+◌, ◌≤◌}
use lib.ListN.{length, get_or}
use Rattle.base.specs.Lists.{join_below}
use Rattle.text.specs.Decimal.{decimal}
use Rattle.text.specs.Buffer.{Puts}
use Rattle.report_text.proofs.rows.put_states.Given as goal

abbrev pub invariant-loop-h : goal.invariant-loop-h
invariant-loop-h l =
    Puts (join_below l.h (λ i. decimal (get_or l.states (l.from + i) 0))) l.initial.out l.out l.at l.next × (l.h ≤ l.n) × (length l.out ≡ length l.initial.out)
