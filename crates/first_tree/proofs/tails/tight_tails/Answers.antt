-- The sets of the heads below `head` are there. Assumes nothing.
use mathlib.Core.Path.{◌≡◌}
use native.Mathlib.Omega.{arith}
use Rattle.first_tree.proofs.TailLaws.{tails_all}
use Rattle.first_tree.proofs.tails.tight_tails.Goals as goal

pub returns : goal.returns
returns c =
    let l = c.loop-head in
    let a = c.args in
    let e : l.head ≡ a.n = omega arith in
    tails_all a.m.now a.reduced.now a.n a.root l.tails (rw e at l.invariant.1)
