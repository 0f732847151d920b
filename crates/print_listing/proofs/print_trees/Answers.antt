-- `print_trees` is safe and ends: each tree lies within the list, and what is left of it gets shorter. Assumes nothing.
use Prim.Native.Nat.{◌+◌, ◌-◌}
use native.Mathlib.Omega.{arith}
use lib.ListN.{drop, length-take, length-drop}
use Rattle.print_listing.proofs.print_trees.Goals as goal

pub print_tree-requires : goal.print_tree-requires
print_tree-requires c =
    let p = c.requires in
    let trees = c.args.trees.now in
    let n = c.args.n in
    let at = c.loop-at.at in
    let e = length-take (at + n - at) (drop at trees) in
    let f = length-drop at trees in
    (p.0, p.1, p.3, omega arith)
