-- `record_count` is safe: a board has at most 200 records. Assumes nothing.
use mathlib.Core.Path.{refl}
use native.Mathlib.Omega.{arith}
use Rattle.print_why.proofs.AnswerLaws.{opened_valid, few_records}
use Rattle.print_why.proofs.asking.record_count.Goals as goal

pub overflow_cast-result : goal.overflow_cast-result
overflow_cast-result c =
    omega (arith, few_records c.in-Ok.board (opened_valid _ _ c.in-Ok.ensures refl))
