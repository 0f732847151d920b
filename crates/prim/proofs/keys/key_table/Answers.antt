-- The cells that were passed hold their keys. Assumes nothing.
use mathlib.Core.Path.{refl}
use native.Mathlib.Omega.{arith}
use lib.ListN.{replicate, length-set}
use Rattle.base.proofs.ListLaws.{tabulate_none, tabulate_store}
use Rattle.instance.specs.Limits.{cells}
use Rattle.spanning.specs.Graph.{graph_of}
use Rattle.spanning.specs.KeyTables.{table_key}
use Rattle.prim.proofs.keys.key_table.Goals as goal

pub loop-c-init : goal.loop-c-init
loop-c-init c = (refl, omega arith, tabulate_none (replicate cells 0) (table_key (graph_of c.args.n c.args.weights.now c.args.marks.now)))

pub loop-c-preserved : goal.loop-c-preserved
loop-c-preserved c =
    let a = c.args in
    let l = c.loop-c in (
      simp length-set l.invariant.0,
      omega arith,
      tabulate_store l.table l.c (table_key (graph_of a.n a.weights.now a.marks.now)) c.cell_key.result (let s = l.invariant.0 in omega arith) l.invariant.2 c.cell_key.ensures,
    )
