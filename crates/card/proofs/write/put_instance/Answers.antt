-- `put_instance` meets its contract: the header, then the cells, each with the room that `WriteLaws` counts. Assumes
-- nothing.
use Rattle.card.proofs.WriteLaws.{header_room, cells_room, all_put}
use Rattle.card.proofs.write.put_instance.Goals as goal

pub put_header-header-requires : goal.put_header-header-requires
put_header-header-requires c =
    let a = c.args in
    header_room a.n a.root a.budget a.weights.now a.marks.now c.requires.n_le_max_vertices.0 c.requires.n_le_max_vertices.1 a.out.now a.start c.requires.ready

pub returns : goal.returns
returns c =
    let a = c.args in
    all_put a.n a.root a.budget a.weights.now a.marks.now c.requires.n_le_max_vertices.0 c.requires.n_le_max_vertices.1 a.out.now a.start c.requires.ready
    _ _ c.put_header-header.ensures _ _ c.put_cells.ensures

pub put_cells-requires-clause-ready : goal.put_cells-requires-clause-ready
put_cells-requires-clause-ready c =
    let a = c.args in
    cells_room a.n a.root a.budget a.weights.now a.marks.now c.requires.n_le_max_vertices.0 c.requires.n_le_max_vertices.1 a.out.now a.start c.requires.ready
    _ _ c.put_header-header.ensures
