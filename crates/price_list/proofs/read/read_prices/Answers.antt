-- Refused, or read into the table and copied from there. Assumes nothing.
use mathlib.Core.Path.{refl, sym}
use Rattle.std.proofs.lemmas.Result.{err_from_is_err_and}
use Rattle.instance.proofs.RefusalLaws.{not_0}
use Rattle.price_list.proofs.RoomLaws.{count_small, room_count, room_words}
use Rattle.price_list.proofs.LineLaws.{table_none}
use Rattle.price_list.proofs.ReadLaws.{reads_refused, reads_faulty, reads_whole}
use Rattle.price_list.proofs.read.read_prices.Goals as goal

pub returns-in_err-check_room : goal.returns-in_err-check_room
returns-in_err-check_room c =
    let p = err_from_is_err_and c.from_residual.result c.from_residual.ensures.1 in
    rw (p.1, p.2.0, p.2.1) (reads_refused _ _ _ _ _ c.in_err-check_room.ensures)

pub returns-in_err-read_table : goal.returns-in_err-read_table
returns-in_err-read_table c =
    let p = err_from_is_err_and c.from_residual-in_err-read_table.result c.from_residual-in_err-read_table.ensures.1 in
    rw (p.1, p.2) (reads_faulty _ _ _ _ c.in_ok-check_room.ensures _ _ c.in_err-read_table.ensures (not_0 _))

pub copy_prices-requires : goal.copy_prices-requires
copy_prices-requires c =
    let e = sym c.in_ok-check_room.ensures in
    (count_small _ _ (room_count _ _ _ e), c.read_table.ensures.holds.long, room_words _ _ _ e)

pub returns : goal.returns
returns c =
    let e = c.in_ok-check_room.ensures in
    rw c.copy_prices.ensures (reads_whole _ _ _ _ e _ _ c.in_ok-read_table.ensures (count_small _ _ (room_count _ _ _ (sym e))) refl)
