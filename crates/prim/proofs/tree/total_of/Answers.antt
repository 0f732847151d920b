-- The sum is that of the edges of the vertices below v. Assumes nothing.
use Prim.Native.Nat.{◌+◌}
use native.Mathlib.Omega.{arith}
use Rattle.prim.proofs.TreeLaws.{sum_fits, sum_first, sum_next}
use Rattle.prim.proofs.tree.total_of.Goals as goal

pub loop-v-init : goal.loop-v-init
loop-v-init c = let a = c.args in (omega arith, c.requires.0, sum_first a.weights.now a.parents.now a.n c.requires.1)

pub overflow_add-sum-in-loop-v : goal.overflow_add-sum-in-loop-v
overflow_add-sum-in-loop-v c =
    let a = c.args in
    let l = c.loop-v in
    let e = sum_next a.weights.now a.parents.now a.n c.requires.1 l.v l.sum (λ z. let i = l.invariant.0 in omega arith) l.invariant.2 in
    let f = sum_fits a.weights.now a.parents.now a.n c.requires.1 (l.v + 1) (omega arith) in
    omega arith

pub loop-v-preserved : goal.loop-v-preserved
loop-v-preserved c =
    let a = c.args in
    let l = c.loop-v in (
      omega arith,
      omega arith,
      sum_next a.weights.now a.parents.now a.n c.requires.1 l.v l.sum (λ z. let i = l.invariant.0 in omega arith) l.invariant.2,
    )
