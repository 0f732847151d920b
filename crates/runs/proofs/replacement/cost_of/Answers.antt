-- The own key and the least that reconnects. Assumes nothing.
use mathlib.Core.Path.{◌∙◌}
use native.Mathlib.Omega.{arith}
use lib.ListN.{take}
use Rattle.runs.proofs.ShowLaws.{cost_root, cost_edge}
use Rattle.runs.proofs.TablesLaws.{tail_at, parent_at}
use Rattle.runs.proofs.replacement.cost_of.Goals as goal

pub returns-then-v-eq0 : goal.returns-then-v-eq0
returns-then-v-eq0 c = let a = c.args in cost_root a.tree.now.keys.now a.tree.now.n (take a.tree.now.n a.tree.now.parents.now) a.v c.if-v-eq0.true

pub bounds-tree-tail : goal.bounds-tree-tail
bounds-tree-tail c = let a = c.args in let s = c.args.tree.now.rooted.places.small in omega (arith, tail_at a.tree.now.n a.tree.now.parents.now c.args.tree.now.rooted a.v c.requires c.if-v-eq0.false)

pub returns : goal.returns
returns c =
    let a = c.args in
    c.cost_by.ensures
    ∙ rw (c.least_crossing-least.ensures, parent_at a.tree.now.n a.tree.now.parents.now c.args.tree.now.rooted a.v c.requires) (cost_edge a.tree.now.keys.now a.tree.now.n (take a.tree.now.n a.tree.now.parents.now) a.v c.if-v-eq0.false)
