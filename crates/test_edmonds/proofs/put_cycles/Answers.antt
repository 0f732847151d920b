-- `test_edmonds::put_cycles` meets its contract. Assumes nothing.
use Prim.Native.Nat.{◌-◌}
use native.Mathlib.Omega.{arith}
use Rattle.test_edmonds.proofs.put_cycles.Goals as goal

pub put_arc-requires : goal.put_arc-requires
put_arc-requires c = c.requires

pub put_arc-requires-2 : goal.put_arc-requires-2
put_arc-requires-2 c = c.put_arc.ensures

pub loop-v-init : goal.loop-v-init
loop-v-init c = (omega arith, omega arith, c.put_arc-2.ensures.0, c.put_arc-2.ensures.1)

pub overflow_sub-v : goal.overflow_sub-v
overflow_sub-v c = omega arith

pub put_arc-requires-in-loop-v : goal.put_arc-requires-in-loop-v
put_arc-requires-in-loop-v c = let inv = c.loop-v.invariant in (inv.2, inv.3)

pub overflow_sub-v-in-loop-v : goal.overflow_sub-v-in-loop-v
overflow_sub-v-in-loop-v c = omega arith

pub put_arc-requires-in-loop-v-2 : goal.put_arc-requires-in-loop-v-2
put_arc-requires-in-loop-v-2 c = c.put_arc-in-loop-v.ensures

pub overflow_add-v : goal.overflow_add-v
overflow_add-v c = omega arith

pub loop-v-smaller : goal.loop-v-smaller
loop-v-smaller c = omega arith

pub loop-v-preserved : goal.loop-v-preserved
loop-v-preserved c = (omega arith, omega arith, c.put_arc-in-loop-v-2.ensures.0, c.put_arc-in-loop-v-2.ensures.1)

pub returns : goal.returns
returns c = (c.loop-v.invariant.2, c.loop-v.invariant.3)
