-- No tree, or one that is too dear: not usable. One that fits: all its arcs are usable. Assumes nothing.
use Prim.Native.Nat.{◌≤◌}
use native.Mathlib.Omega.{arith}
use lib.ListN.{take}
use borrow.Author.Tests.{eqb-false}
use Rattle.instance.specs.Arborescence.{total}
use Rattle.instance.specs.Matrix.{unmarked}
use Rattle.instance.proofs.MatrixLaws.{matrix_ends}
use Rattle.paths.proofs.TreeLaws.{tree_rooted}
use Rattle.usable.proofs.UsableLaws.{usable_tree, unusable_unplanned, unusable_dear}
use Rattle.usable.proofs.JudgeLaws.{judged_unusable, judged_added}
use Rattle.usable.proofs.judge.judge_by_planning.Goals as goal

pub returns-in_default : goal.returns-in_default
returns-in_default c =
    let a = c.args in
    judged_unusable _ a.used.now c.requires.2 a.tail a.head (unusable_unplanned a.plan.n a.plan.root a.plan.limit a.plan.m.now a.tail a.head c.in_default.ensures.none)

pub add_tree-requires : goal.add_tree-requires
add_tree-requires c =
    let k = c.in-Some.ensures.some.tree in
    (k.matrix_ok.small, tree_rooted _ _ _ _ k)

pub returns-then-planned-plan : goal.returns-then-planned-plan
returns-then-planned-plan c =
    let a = c.args in
    let plan = c.in-Some.ensures.some in
    let l = matrix_ends a.plan.n a.plan.root a.plan.m.now a.tail a.head c.requires.1 in
    let small = plan.tree.matrix_ok.small in
    let ps = take a.plan.n c.in-Some.planned.parents in
    let is = plan.is_total in
    let within = c.if-planned-plan.true in
    let fits : total (unmarked a.plan.n a.plan.root a.plan.m.now) ps ≤ a.plan.limit = omega arith in
    judged_added _ a.plan.n a.plan.root ps a.used.now _ c.add_tree.ensures c.requires.2
    (λ t h u. usable_tree a.plan.n a.plan.root a.plan.limit a.plan.m.now t h ps plan.tree.arborescence fits u) a.tail a.head (omega (arith, l.tail_below))
    (omega (arith, l.head_below)) l.head_below (eqb-false _ _ l.not_root) plan.used

pub returns-else-planned-plan : goal.returns-else-planned-plan
returns-else-planned-plan c =
    let a = c.args in
    judged_unusable _ a.used.now c.requires.2 a.tail a.head
    (unusable_dear a.plan.n a.plan.root a.plan.limit a.plan.m.now a.tail a.head _ c.in-Some.ensures.some c.if-planned-plan.false)
