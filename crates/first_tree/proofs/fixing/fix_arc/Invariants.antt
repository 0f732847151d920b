-- The cuts from k on have been looked at. Assumes nothing.
use Prim.Native.Nat.{◌≤◌}
use Rattle.first_tree.proofs.FixingLaws.{Fixing}
use Rattle.first_tree.proofs.fixing.fix_arc.Given as goal

abbrev pub invariant-loop-k : goal.invariant-loop-k
invariant-loop-k l = (l.low ≤ l.k) × (l.k ≤ l.search.count) × Fixing l.search.cuts.now l.search.n l.search.count l.tail l.head l.initial.tails l.tails l.k
