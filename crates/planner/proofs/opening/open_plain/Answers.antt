-- A refused card and one that opens, each by its law. Assumes nothing.
use Rattle.std.proofs.lemmas.Result.{err_from_is_err_and}
use Rattle.planner.proofs.OpeningLaws.{open_refused, open_accepted}
use Rattle.planner.proofs.opening.open_plain.Goals as goal

pub returns-in_err-n : goal.returns-in_err-n
returns-in_err-n c =
    let p = err_from_is_err_and c.from_residual.result c.from_residual.ensures.1 in
    rw (p.1, p.2) (open_refused _ _ c.in_err-n.ensures)

pub returns : goal.returns
returns c = rw c.new_board.ensures.board (open_accepted _ _ c.in_ok-n.ensures)
