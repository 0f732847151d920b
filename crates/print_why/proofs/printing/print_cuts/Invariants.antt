-- `print_cuts` is safe and ends: both words of each pair lie within the list. Assumes nothing.
use Prim.Native.Nat.{◌-◌, ◌≤◌}
use Rattle.print_why.proofs.printing.print_cuts.Given as goal

abbrev pub invariant-loop-k : goal.invariant-loop-k
invariant-loop-k l = l.k ≤ l.pairs
