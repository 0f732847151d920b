-- The least key of those that were passed; none where j is not below v. Assumes nothing.
use mathlib.Core.Path.{◌≡◌}
use lib.ListN.{take}
use Rattle.spanning.specs.Extremes.{least_below}
use Rattle.spanning.specs.Keys.{no_key}
use Rattle.spanning.specs.KeyTables.{crossing_key}
use Rattle.runs.proofs.replacement.least_into.Given as goal

abbrev pub invariant-loop-i : goal.invariant-loop-i
invariant-loop-i l = l.least ≡ least_below no_key l.i (crossing_key l.tree.keys.now l.tree.n (take l.tree.n l.tree.parents.now) l.v l.j)
