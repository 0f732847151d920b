-- The least of the vertices that were passed. Assumes nothing.
use mathlib.Core.Path.{◌≡◌}
use lib.ListN.{take}
use Rattle.spanning.specs.Extremes.{least_below}
use Rattle.spanning.specs.Keys.{no_key}
use Rattle.spanning.specs.KeyTables.{least_into}
use Rattle.runs.proofs.replacement.least_crossing.Given as goal

abbrev pub invariant-loop-j : goal.invariant-loop-j
invariant-loop-j l = l.least ≡ least_below no_key l.j (least_into l.tree.keys.now l.tree.n (take l.tree.n l.tree.parents.now) l.v)
