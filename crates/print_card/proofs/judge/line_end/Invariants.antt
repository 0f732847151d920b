-- No line feed stands behind the bytes that are left. Assumes nothing.
use mathlib.Core.Path.{◌≡◌}
use Prim.Native.Nat.{◌≤◌}
use lib.ListN.{length}
use Rattle.print_card.specs.Judge.{line_end}
use Rattle.print_card.proofs.judge.line_end.Given as goal

abbrev pub invariant-loop-k : goal.invariant-loop-k
invariant-loop-k l = (l.k ≤ length l.text) × (line_end (length l.text) l.text ≡ line_end l.k l.text)

abbrev pub decreases-loop-k : goal.decreases-loop-k
decreases-loop-k l = l.k
