-- The room first, then the cells. Assumes nothing.
use mathlib.Core.Path.{sym, ◌∙◌}
use lib.ListN.{length}
use Rattle.std.proofs.lemmas.Result.{err_from_is_err_and}
use Rattle.spanning.specs.Graph.{graph_of}
use Rattle.instance.proofs.RefusalLaws.{not_0}
use Rattle.runs.proofs.RefusalLaws.{room_passed, answer_room, answer_cells}
use Rattle.runs.proofs.refusal.check_runs.Goals as goal

pub returns-in_err-check_room : goal.returns-in_err-check_room
returns-in_err-check_room c =
    let a = c.args in
    let r = c.in_err-check_room.field-0.0 in
    let p = err_from_is_err_and c.from_residual.result c.from_residual.ensures.1 in
    rw (p.1, p.2) (answer_room (graph_of a.n a.weights.now a.marks.now) a.states a.costs _ c.in_err-check_room.ensures (not_0 r))

pub check_edges-requires : goal.check_edges-requires
check_edges-requires c =
    let a = c.args in
    let r = room_passed a.n (length a.weights.now) (length a.marks.now) a.states a.costs (sym c.in_ok-check_room.ensures) in
    (r.some, r.small, r.first, r.second)

pub returns : goal.returns
returns c =
    let a = c.args in
    c.check_edges.ensures ∙ answer_cells (graph_of a.n a.weights.now a.marks.now) a.states a.costs (sym c.in_ok-check_room.ensures)
