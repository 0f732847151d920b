-- The sum is that of the arcs into the vertices below v. Assumes nothing.
use mathlib.Core.Path.{◌≡◌}
use Prim.Native.Nat.{◌<◌}
use native.Mathlib.Omega.{arith}
use lib.ListN.{get_or}
use Rattle.paths.proofs.TreeLaws.{tail_below}
use Rattle.first_tree.proofs.AttemptLaws.{summed_none, summed_root, summed_more, summed_fits, summed_all}
use Rattle.first_tree.proofs.attempt.tree_total.Goals as goal
use Rattle.first_tree.proofs.attempt.tree_total.Goals.{else-v-root, then-v-root}

pub loop-v-init : goal.loop-v-init
loop-v-init c = (omega arith, summed_none _ _ _ _)

pub bounds-m-tail : goal.bounds-m-tail
bounds-m-tail c = let k = c.requires.matrix_ok.small in omega (arith, (let it : get_or c.args.parents.now c.loop-v.v 0 < c.args.n = let a = c.args in tail_below a.n a.root a.m.now a.parents.now c.requires c.loop-v.v (omega arith) c.if-v-root.true in it))

pub overflow_add-sum-then-v-root : goal.overflow_add-sum-then-v-root
overflow_add-sum-then-v-root c =
    let a = c.args in
    let l = c.loop-v in
    record { fits = summed_fits a.n a.root a.m.now a.parents.now c.requires l.v l.sum (omega arith) c.if-v-root.true l.invariant.1 }

pub loop-v-preserved : goal.loop-v-preserved
loop-v-preserved c =
    let a = c.args in
    let l = c.loop-v in (
      omega arith,
      elim c.if-v-root.branch [ then-v-root w ↦ rw w.sum-is (summed_more a.n a.root a.m.now a.parents.now c.requires l.v l.sum (omega arith) w.if-v-root.true l.invariant.1) | else-v-root w ↦ rw w.sum-is (summed_root a.n a.root a.m.now a.parents.now l.v l.sum w.if-v-root.false l.invariant.1) ],
    )

pub returns : goal.returns
returns c =
    let l = c.loop-v in
    let a = c.args in
    let e : l.v ≡ a.n = omega arith in
    summed_all a.n a.root a.m.now a.parents.now l.sum (rw e at l.invariant.1)
