-- `read_card` meets its contract: each return is one of the steps of `ReadLaws`. Assumes nothing.
use native.Mathlib.Omega.{arith}
use Rattle.std.proofs.lemmas.Result.{err_from_is_err_and}
use Rattle.card.proofs.ReadLaws.{none_read, its_end, cells_refused, filling_refused, all_read}
use Rattle.card.proofs.read.read_card.Goals as goal

pub returns-in_err-n : goal.returns-in_err-n
returns-in_err-n c =
    let p = err_from_is_err_and c.from_residual.result c.from_residual.ensures.1 in
    rw (p.1, p.2) (none_read _ _ c.in_err-n.ensures)

pub read_cells-requires : goal.read_cells-requires
read_cells-requires c =
    let e = its_end _ _ c.in_ok-n.ensures in
    (omega (arith, e.room), e.small, omega arith)

pub returns-in_err-weights : goal.returns-in_err-weights
returns-in_err-weights c =
    let p = err_from_is_err_and c.from_residual-in_err-weights.result c.from_residual-in_err-weights.ensures.1 in
    rw (p.1, p.2) (cells_refused _ _ c.in_ok-n.ensures _ c.in_err-weights.ensures)

pub overflow_mul-card : goal.overflow_mul-card
overflow_mul-card c = omega (arith, its_end _ _ c.in_ok-n.ensures)

pub overflow_sub-card : goal.overflow_sub-card
overflow_sub-card c = omega (arith, its_end _ _ c.in_ok-n.ensures, c.in_ok-weights.ensures.last_end)

pub read_bits-requires : goal.read_bits-requires
read_bits-requires c = omega (arith, its_end _ _ c.in_ok-n.ensures, c.in_ok-weights.ensures.last_end)

pub returns-then-read_bits-ne0 : goal.returns-then-read_bits-ne0
returns-then-read_bits-ne0 c =
    filling_refused _ _ c.in_ok-n.ensures _ c.in_ok-weights.ensures c.read_bits.result c.read_bits.ensures c.if-read_bits-ne0.true

pub returns : goal.returns
returns c = all_read _ _ c.in_ok-n.ensures _ c.in_ok-weights.ensures c.read_bits.result c.read_bits.ensures c.if-read_bits-ne0.false
