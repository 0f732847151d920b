-- The vertices from `head` on have been looked at. Assumes nothing.
use mathlib.Core.Path.{◌≡◌}
use Prim.Native.Nat.{suc, ◌-◌}
use native.Mathlib.Omega.{arith}
use Rattle.first_tree.proofs.GrowthLaws.{grows_then}
use Rattle.first_tree.proofs.growth.grow_round.Goals as goal

pub loop-head-preserved : goal.loop-head-preserved
loop-head-preserved c =
    let l = c.loop-head in
    let a = c.args in
    let e : suc (l.head - 1) ≡ l.head = omega arith in
    (omega arith, grows_then a.search.n a.search.from.0 a.search.count (l.head - 1) l.head a.search.n _ _ _ _ _ _ _ _ _ l.invariant.1 (rw e at c.grow_into-more.ensures))
