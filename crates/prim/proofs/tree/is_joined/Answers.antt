-- One of the two is the other's parent. Assumes nothing.
use lib.ListN.{get_or}
use borrow.Author.Tests.{eq-eqb, ne_eqb}
use Rattle.prim.proofs.TreeLaws.{joins_read}
use Rattle.prim.proofs.tree.is_joined.Goals as goal

pub returns-then-parents-j : goal.returns-then-parents-j
returns-then-parents-j c =
    let a = c.args in
    let p = c.requires in
    let e = eq-eqb (get_or a.parents.now a.j 0) a.i c.if-parents-j.true in
    rw (joins_read a.n a.parents.now p.0 c.told-parents a.i a.j p.1 p.2, e)

pub returns-else-parents-j : goal.returns-else-parents-j
returns-else-parents-j c =
    let a = c.args in
    let p = c.requires in
    let e = ne_eqb (get_or a.parents.now a.j 0) a.i c.if-parents-j.false in
    rw (joins_read a.n a.parents.now p.0 c.told-parents a.i a.j p.1 p.2, e)
