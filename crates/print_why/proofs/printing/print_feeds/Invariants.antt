-- `print_feeds` is safe and ends: each vertex has a parent in the list. Assumes nothing.
use Prim.Native.Nat.{◌-◌, ◌≤◌}
use Rattle.print_why.proofs.printing.print_feeds.Given as goal

abbrev pub invariant-loop-v : goal.invariant-loop-v
invariant-loop-v l = l.v ≤ l.n
