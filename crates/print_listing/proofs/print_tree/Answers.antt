-- `print_tree` is safe: the line fits its buffer. Assumes nothing.
use native.Mathlib.Omega.{arith}
use Rattle.listing_text.proofs.TreeLaws.{bytes_in, tree_length}
use Rattle.text.proofs.BufferLaws.{room_whole}
use Rattle.print_listing.proofs.LineLaws.{counted}
use borrow.Author.Rules.{rules}
use Rattle.print_listing.proofs.print_tree.Goals as goal

pub put_tree-end-requires : goal.put_tree-end-requires
put_tree-end-requires c =
    let a = c.args in
    let p = c.requires in
    let f = tree_length a.n a.root a.weights.now a.parents.now p.0 p.1 p.2 (bytes_in a.parents.now a.n p.3 (λ v l. search rules)) in
    record { weights_len = (p.0, p.1); n_le_max_vertices = (p.2, p.3); room = room_whole _ _ f }

pub slice_bounds-line-end : goal.slice_bounds-line-end
slice_bounds-line-end c =
    let a = c.args in
    let p = c.requires in
    let f = tree_length a.n a.root a.weights.now a.parents.now p.0 p.1 p.2 (bytes_in a.parents.now a.n p.3 (λ v l. search rules)) in
    omega (arith, c.put_tree-end.ensures.place, c.put_tree-end.auto.out)

pub slice_bounds-write_all-end : goal.slice_bounds-write_all-end
slice_bounds-write_all-end c =
    let a = c.args in
    let p = c.requires in
    let f = tree_length a.n a.root a.weights.now a.parents.now p.0 p.1 p.2 (bytes_in a.parents.now a.n p.3 (λ v l. search rules)) in
    counted _ _ (omega (arith, c.put_tree-end.ensures.place, c.put_tree-end.auto.out))
