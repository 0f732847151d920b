-- `test_edmonds::tree_total` meets its contract: the sum of at most 32 weights fits. Assumes nothing.
use Prim.Native.Nat.{◌-◌}
use native.Mathlib.Omega.{arith}
use Rattle.test_edmonds.proofs.tree_total.Goals as goal
use Rattle.test_edmonds.proofs.tree_total.Goals.{else-p-lt-VERTICES, then-p-lt-VERTICES}

pub loop-v-init : goal.loop-v-init
loop-v-init c = omega arith

pub bounds-parents-v : goal.bounds-parents-v
bounds-parents-v c = omega arith

pub overflow_mul-p : goal.overflow_mul-p
overflow_mul-p c = omega arith

pub overflow_add-p : goal.overflow_add-p
overflow_add-p c = omega arith

pub offset_bounds-w-p : goal.offset_bounds-w-p
offset_bounds-w-p c = omega arith

pub bounds-w-p : goal.bounds-w-p
bounds-w-p c = omega arith

pub overflow_add-total : goal.overflow_add-total
overflow_add-total c = omega arith

pub overflow_add-v : goal.overflow_add-v
overflow_add-v c = omega arith

pub loop-v-smaller : goal.loop-v-smaller
loop-v-smaller c = omega arith

pub loop-v-preserved : goal.loop-v-preserved
loop-v-preserved c = elim c.if-p-lt-VERTICES.branch [ then-p-lt-VERTICES w ↦ omega (arith, w.wide32-total.ensures, w.total-is) | else-p-lt-VERTICES w ↦ omega (arith, w.total-is) ]
