-- Refused, or measured and then put. Assumes nothing.
use mathlib.Core.Path.{sym}
use native.Mathlib.Omega.{arith}
use Rattle.std.proofs.lemmas.Result.{err_from_is_err_and}
use Rattle.text.proofs.BufferLaws.{room_whole}
use Rattle.price_list.proofs.RoomLaws.{count_some, count_small, room_count, room_words}
use Rattle.price_list.proofs.WriteLaws.{prices_room, writes_refused, writes_short, writes_whole}
use Rattle.price_list.proofs.write.write_prices.Goals as goal

pub returns-in_err-check_prices : goal.returns-in_err-check_prices
returns-in_err-check_prices c =
    let p = err_from_is_err_and c.from_residual.result c.from_residual.ensures.1 in
    rw (p.1, p.2) (writes_refused _ _ _ _ _ c.in_err-check_prices.ensures)

pub list_length-length-requires : goal.list_length-length-requires
list_length-length-requires c =
    let e = prices_room _ _ _ (sym c.in_ok-check_prices.ensures) in
    let h = room_count _ _ _ e in
    (count_some _ _ h, count_small _ _ h, room_words _ _ _ e)

pub returns-then-out-length : goal.returns-then-out-length
returns-then-out-length c =
    writes_short _ _ _ _ c.in_ok-check_prices.ensures (omega (arith, c.if-out-length.true, c.list_length-length.ensures))

pub put_list-requires : goal.put_list-requires
put_list-requires c =
    let e = prices_room _ _ _ (sym c.in_ok-check_prices.ensures) in
    let h = room_count _ _ _ e in
    (count_some _ _ h, count_small _ _ h, room_words _ _ _ e, room_whole _ _ (omega (arith, c.if-out-length.false, c.list_length-length.ensures)))

pub returns : goal.returns
returns c =
    let n = c.list_length-length in
    rw n.ensures (writes_whole _ _ _ _ c.in_ok-check_prices.ensures _ _ (omega (arith, c.if-out-length.false, n.ensures)) c.put_list.ensures)
