-- One test after the other. Assumes nothing.
use mathlib.Core.Path.{sym}
use native.Mathlib.Omega.{arith}
use borrow.Author.Tests.{lt-ltb, le-ltb, ne_eqb}
use Rattle.std.proofs.lemmas.Result.{err_from_is_err_and}
use Rattle.base.proofs.GridLaws.{square_most}
use Rattle.instance.specs.Limits.{max_vertices}
use Rattle.price_format.specs.Reading.{room_refusal}
use Rattle.instance.proofs.RefusalLaws.{not_0}
use Rattle.price_list.proofs.RoomLaws.{count_small}
use Rattle.price_list.proofs.room.check_room.Goals as goal

pub returns-in_err-check_count : goal.returns-in_err-check_count
unfolding room_refusal
returns-in_err-check_count c =
    let p = err_from_is_err_and c.from_residual.result c.from_residual.ensures.1 in
    let r = c.in_err-check_count.field-0.0 in
    rw (p.1, p.2, ← c.in_err-check_count.ensures, ne_eqb _ 0 (not_0 r))

pub overflow_mul-n : goal.overflow_mul-n
overflow_mul-n c = omega (arith, square_most c.args.n max_vertices (count_small _ _ (sym c.in_ok-check_count.ensures)))

pub returns-then-words-n : goal.returns-then-words-n
unfolding room_refusal
returns-then-words-n c = rw (← c.in_ok-check_count.ensures, lt-ltb _ _ c.if-words-n.true)

pub returns : goal.returns
unfolding room_refusal
returns c = rw (← c.in_ok-check_count.ensures, le-ltb _ _ c.if-words-n.false)
