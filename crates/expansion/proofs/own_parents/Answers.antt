-- `expansion::own_parents` meets its contract. The loop has filled the parents below v. Assumes nothing.
use Prim.Native.Nat.{ℕ}
use native.Mathlib.Omega.{arith}
use lib.ListN.{get_or-replicate}
use borrow.Author.Tests.{eq-eqb, ne_eqb}
use Rattle.instance.specs.Limits.{max_vertices, no_parent}
use Rattle.base.proofs.OverwriteLaws.{overwrite_store, overwrite_pass}
use Rattle.expansion.proofs.own_parents.Goals as goal
use Rattle.expansion.proofs.own_parents.Goals.{else-g-top, then-g-top+else-heads-g, then-g-top+then-heads-g}

pub loop-v-preserved : goal.loop-v-preserved
loop-v-preserved c =
    let none_yet = get_or-replicate {A = ℕ} max_vertices c.loop-v.v no_parent 0 (omega arith) in (
      omega arith,
      elim c.if-g-top.branch [ then-g-top+then-heads-g w ↦ rw w.out-is (overwrite_store _ _ c.loop-v.out c.loop-v.v _ c.loop-v.invariant.1 (omega arith) (rw (ne_eqb _ _ w.if-g-top.true, eq-eqb _ _ w.if-heads-g.true))) | then-g-top+else-heads-g w ↦ rw w.out-is (overwrite_pass _ _ c.loop-v.out c.loop-v.v c.loop-v.invariant.1 (rw (ne_eqb _ _ w.if-g-top.true, ne_eqb _ _ w.if-heads-g.false) none_yet)) | else-g-top w ↦ rw w.out-is (overwrite_pass _ _ c.loop-v.out c.loop-v.v c.loop-v.invariant.1 (rw (eq-eqb _ _ w.if-g-top.false) none_yet)) ],
    )
