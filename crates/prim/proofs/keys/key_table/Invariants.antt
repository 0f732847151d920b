-- The cells that were passed hold their keys. Assumes nothing.
use mathlib.Core.Path.{◌≡◌}
use Prim.Native.Nat.{◌≤◌}
use lib.ListN.{length, take}
use Rattle.base.specs.Lists.{tabulate}
use Rattle.instance.specs.Limits.{cells}
use Rattle.spanning.specs.Graph.{graph_of}
use Rattle.spanning.specs.KeyTables.{table_key}
use Rattle.prim.proofs.keys.key_table.Given as goal

abbrev pub invariant-loop-c : goal.invariant-loop-c
invariant-loop-c l = (length l.table ≡ cells) × (l.c ≤ cells) × (take l.c l.table ≡ tabulate l.c (table_key (graph_of l.n l.weights l.marks)))
