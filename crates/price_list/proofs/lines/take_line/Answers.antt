-- A line that is read is judged as its numbers are, and its weight is stored. Assumes nothing.
use native.Mathlib.Omega.{arith}
use Rattle.std.proofs.lemmas.Result.{err_from_is_err_and}
use Rattle.price_list.proofs.LineLaws.{takes_none, takes_refused, takes_low, takes_stored}
use Rattle.price_list.proofs.lines.take_line.Goals as goal

pub returns-in_default : goal.returns-in_default
returns-in_default c = takes_none _ _ _ _ _ c.in_default.ensures

pub returns-in_err-check_numbers : goal.returns-in_err-check_numbers
returns-in_err-check_numbers c =
    let p = err_from_is_err_and c.from_residual.result c.from_residual.ensures.1 in
    rw (p.1, p.2) (takes_refused _ _ _ _ _ _ c.in-Some.ensures c.requires.1 _ c.in_err-check_numbers.ensures)

pub overflow_mul-table : goal.overflow_mul-table
overflow_mul-table c =
    let p = takes_low _ _ _ _ _ _ c.in-Some.ensures c.requires.1 c.in_ok-check_numbers.ensures in omega (arith, p.0, c.requires.1)

pub overflow_add-table : goal.overflow_add-table
overflow_add-table c =
    let p = takes_low _ _ _ _ _ _ c.in-Some.ensures c.requires.1 c.in_ok-check_numbers.ensures in omega (arith, p.0, p.1, c.requires.1)

pub bounds-table-line : goal.bounds-table-line
bounds-table-line c =
    let p = takes_low _ _ _ _ _ _ c.in-Some.ensures c.requires.1 c.in_ok-check_numbers.ensures in omega (arith, p.0, p.1, c.requires.1)

pub returns : goal.returns
returns c = takes_stored _ _ _ _ _ _ c.in-Some.ensures c.requires.1 c.in_ok-check_numbers.ensures
