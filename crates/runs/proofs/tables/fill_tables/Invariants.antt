-- Both tables are right between the vertices that are done; each turn makes one more done. Assumes nothing.
use Prim.Native.Nat.{◌-◌}
use Rattle.base.specs.Bounded.{count_below}
use Rattle.runs.specs.Tables.{is_done}
use Rattle.runs.proofs.FillingLaws.{Filling}
use Rattle.runs.proofs.tables.fill_tables.Given as goal

abbrev pub invariant-loop-v : goal.invariant-loop-v
invariant-loop-v l = Filling l.keys l.n l.parents l.below l.between l.done

abbrev pub decreases-loop-v : goal.decreases-loop-v
decreases-loop-v l = l.n - count_below l.n (is_done l.done)
