-- The tree is added, and the arcs into the heads that were passed are judged. Assumes nothing.
use native.Mathlib.Omega.{arith}
use lib.ListN.{replicate, take}
use Rattle.instance.specs.Limits.{cells}
use Rattle.paths.proofs.TreeLaws.{tree_rooted}
use Rattle.usable.proofs.UsableLaws.{usable_tree}
use Rattle.usable.proofs.JudgeLaws.{sound_none, sound_added, all_none}
use Rattle.usable.proofs.usable_arcs.Goals as goal

pub add_tree-requires : goal.add_tree-requires
add_tree-requires c =
    let k = c.requires.tree in
    (k.matrix_ok.small, tree_rooted _ _ _ _ k)

pub loop-head-init : goal.loop-head-init
loop-head-init c =
    let a = c.args in
    let k = c.requires.tree in
    let v = c.requires.is_total in
    let within = c.requires.within in
    let ps = take a.plan.n a.plan.parents.now in (
      omega arith,
      all_none _ _
          (sound_added _ a.plan.n a.plan.root ps (replicate cells 0) _ c.add_tree.ensures (sound_none _)
          (λ t h u. usable_tree a.plan.n a.plan.root a.plan.limit a.plan.m.now t h ps k.arborescence (omega arith) u)),
    )
