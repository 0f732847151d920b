-- The word, the parents, the total and the line feed, one behind the other. Assumes nothing.
use Rattle.instance.specs.Matrix.{unmarked}
use Rattle.text.specs.Lines.{codes}
use Rattle.text.proofs.BufferLaws.{puts_room, puts_then}
use Rattle.listing_text.specs.Trees.{tree_line}
use Rattle.listing_text.proofs.TreeLaws.{label_room, parents_room}
use Rattle.listing_text.proofs.trees.put_tree.Goals as goal

pub put_bytes-named-requires : goal.put_bytes-named-requires
unfolding codes
put_bytes-named-requires c = label_room _ _ c.requires.room

pub put_parents-listed-requires : goal.put_parents-listed-requires
unfolding codes unmarked
put_parents-listed-requires c = record { n_in_bounds = c.requires.n_le_max_vertices.1; room = puts_room c.put_bytes-named.ensures _ (parents_room _ _ c.requires.room) }

pub put_line-requires : goal.put_line-requires
unfolding codes tree_line unmarked
put_line-requires c =
    rw c.tree_total-total.ensures
    (puts_room (puts_then c.put_bytes-named.ensures (parents_room _ _ c.requires.room) c.put_parents-listed.ensures) _ c.requires.room)

pub returns : goal.returns
unfolding codes tree_line unmarked
returns c =
    puts_then (puts_then c.put_bytes-named.ensures (parents_room _ _ c.requires.room) c.put_parents-listed.ensures) c.requires.room
    (rw c.tree_total-total.ensures at c.put_line.ensures)
