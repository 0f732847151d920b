-- `expansion::take_arcs` meets its contract. The loop has expanded the vertices below u. Assumes nothing.
use native.Mathlib.Omega.{arith}
use borrow.Author.Tests.{le-leb, lt-leb, eq-eqb, ne_eqb}
use Rattle.base.proofs.OverwriteLaws.{overwrite_store, overwrite_pass}
use Rattle.expansion.proofs.take_arcs.Goals as goal
use Rattle.expansion.proofs.take_arcs.Goals.{else-first-stamp, then-first-stamp+else-g-entered, then-first-stamp+then-g-entered+else-heads-g, then-first-stamp+then-g-entered+then-heads-g}

pub loop-u-preserved : goal.loop-u-preserved
loop-u-preserved c = (
  omega arith,
  elim c.if-first-stamp.branch [ then-first-stamp+then-g-entered+then-heads-g w ↦ rw w.parents-is (overwrite_store _ _ c.loop-u.parents c.loop-u.u _ c.loop-u.invariant.1 (omega arith) (rw (le-leb _ _ w.if-first-stamp.true, ne_eqb _ _ w.if-g-entered.true, eq-eqb _ _ w.if-heads-g.true))) | then-first-stamp+then-g-entered+else-heads-g w ↦ rw w.parents-is (overwrite_pass _ _ c.loop-u.parents c.loop-u.u c.loop-u.invariant.1 (rw (le-leb _ _ w.if-first-stamp.true, ne_eqb _ _ w.if-g-entered.true, ne_eqb _ _ w.if-heads-g.false))) | then-first-stamp+else-g-entered w ↦ rw w.parents-is (overwrite_pass _ _ c.loop-u.parents c.loop-u.u c.loop-u.invariant.1 (rw (le-leb _ _ w.if-first-stamp.true, eq-eqb _ _ w.if-g-entered.false))) | else-first-stamp w ↦ rw w.parents-is (overwrite_pass _ _ c.loop-u.parents c.loop-u.u c.loop-u.invariant.1 (rw (lt-leb _ _ w.if-first-stamp.false))) ],
)
