-- `open_history` meets its contract: each return is one of the steps of `OpenLaws`. Assumes nothing.
use native.Mathlib.Omega.{arith}
use Rattle.std.proofs.lemmas.Result.{err_from_is_err_and}
use Rattle.board.specs.Create.{board_with}
use Rattle.history_card.proofs.OpenLaws.{header_refused, its_room, cells_refused, cells_long, count_unfit, records_room, records_refused, all_opened}
use Rattle.history_card.proofs.open.open_history.Goals as goal

pub returns-in_err-n : goal.returns-in_err-n
returns-in_err-n c =
    let p = err_from_is_err_and c.from_residual.result c.from_residual.ensures.1 in
    rw (p.1, p.2) (header_refused _ _ c.in_err-n.ensures)

pub read_cells-requires : goal.read_cells-requires
read_cells-requires c =
    let e = its_room _ _ c.in_ok-n.ensures in
    (e.inside, e.small, omega arith)

pub returns-in_err-weights : goal.returns-in_err-weights
returns-in_err-weights c =
    let p = err_from_is_err_and c.from_residual-in_err-weights.result c.from_residual-in_err-weights.ensures.1 in
    rw (p.1, p.2) (cells_refused _ _ c.in_ok-n.ensures _ c.in_err-weights.ensures)

pub read_count-requires : goal.read_count-requires
read_count-requires c = omega (arith, (its_room _ _ c.in_ok-n.ensures).small, c.in_ok-weights.ensures.last_end)

pub returns-in_err-count : goal.returns-in_err-count
returns-in_err-count c =
    let p = err_from_is_err_and c.from_residual-in_err-count.result c.from_residual-in_err-count.ensures.1 in
    rw (p.1, p.2) (count_unfit _ _ c.in_ok-n.ensures _ c.in_ok-weights.ensures _ c.in_err-count.ensures)

pub overflow_add-end : goal.overflow_add-end
overflow_add-end c = omega (arith, (its_room _ _ c.in_ok-n.ensures).small, c.in_ok-weights.ensures.last_end)

pub returns-in_err-records : goal.returns-in_err-records
returns-in_err-records c =
    let p = err_from_is_err_and c.from_residual-in_err-records.result c.from_residual-in_err-records.ensures.1 in
    rw (p.1, p.2) (records_refused _ _ c.in_ok-n.ensures _ c.in_ok-weights.ensures _ c.in_ok-count.ensures _ c.in_err-records.ensures)

pub returns : goal.returns
unfolding board_with
returns c =
    all_opened _ _ c.in_ok-n.ensures _ c.in_ok-weights.ensures _ c.in_ok-count.ensures _ c.in_ok-records.ensures _ (rw c.new_board-board.ensures.board)

pub read_records-requires : goal.read_records-requires
read_records-requires c =
    let e = its_room _ _ c.in_ok-n.ensures in
    let l = cells_long _ _ c.in_ok-n.ensures _ c.in_ok-weights.ensures in
    let r = records_room _ _ c.in_ok-n.ensures _ c.in_ok-weights.ensures _ c.in_ok-count.ensures in
    record { n_le_max_vertices = (e.few, l, r.inside); start_bound = (omega (arith, e.small, c.in_ok-weights.ensures.last_end), r.few) }
