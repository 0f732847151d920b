-- The arcs into the vertices that were passed are added. Assumes nothing.
use Prim.Native.Nat.{◌<◌}
use native.Mathlib.Omega.{arith}
use Rattle.std.proofs.Common.{rules}
use lib.ListN.{get_or, take}
use Rattle.paths.proofs.TreeLaws.{parent_read, rooted_tail}
use Rattle.usable.proofs.TableLaws.{add_none, add_root, add_more}
use Rattle.usable.proofs.table.add_tree.Goals as goal
use Rattle.usable.proofs.table.add_tree.Goals.{else-v-root, then-v-root}

pub loop-v-init : goal.loop-v-init
loop-v-init c = (omega arith, add_none _ _ _)

pub bounds-used-tail : goal.bounds-used-tail
bounds-used-tail c = omega (arith, (let it : get_or c.args.parents.now c.loop-v.v 0 < c.args.n = let a = c.args in rooted_tail a.n a.root c.loop-v.v a.parents.now c.requires.0 (search rules) c.requires.1 (omega arith) c.if-v-root.true in it))

pub loop-v-preserved : goal.loop-v-preserved
loop-v-preserved c =
    let l = c.loop-v in
    let a = c.args in (
      omega arith,
      elim c.if-v-root.branch [
        | then-v-root w ↦ rw w.used-is
            (add_more a.root (take a.n a.parents.now) a.used.now l.v (get_or a.parents.now l.v 0) l.used w.if-v-root.true
            (parent_read a.n l.v a.parents.now c.requires.0 (search rules) (omega arith))
            (omega (arith, rooted_tail a.n a.root l.v a.parents.now c.requires.0 (search rules) c.requires.1 (omega arith) w.if-v-root.true))
            (omega arith) (search rules) l.invariant.1)
        | else-v-root w ↦ rw w.used-is (add_root _ _ _ l.v _ w.if-v-root.false l.invariant.1)
      ],
    )
