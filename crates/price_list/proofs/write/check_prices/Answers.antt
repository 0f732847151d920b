-- One test after the other. Assumes nothing.
use mathlib.Core.Path.{sym}
use borrow.Author.Tests.{ne_eqb}
use Rattle.std.proofs.lemmas.Result.{err_from_is_err_and}
use Rattle.price_format.specs.Writing.{prices_refusal}
use Rattle.instance.proofs.RefusalLaws.{not_0}
use Rattle.price_list.proofs.RoomLaws.{count_some, count_small, room_count, room_words}
use Rattle.price_list.proofs.write.check_prices.Goals as goal

pub returns-in_err-check_room : goal.returns-in_err-check_room
unfolding prices_refusal
returns-in_err-check_room c =
    let p = err_from_is_err_and c.from_residual.result c.from_residual.ensures.1 in
    let r = c.in_err-check_room.field-0.0 in
    rw (p.1, p.2, ← c.in_err-check_room.ensures, ne_eqb _ 0 (not_0 r))

pub places_ok-requires : goal.places_ok-requires
places_ok-requires c =
    let e = sym c.in_ok-check_room.ensures in
    let h = room_count _ _ _ e in
    (count_some _ _ h, count_small _ _ h, room_words _ _ _ e)

pub returns-then-places_ok : goal.returns-then-places_ok
unfolding prices_refusal
returns-then-places_ok c = rw (← c.in_ok-check_room.ensures, ← c.places_ok.ensures, c.if-places_ok.true)

pub returns : goal.returns
unfolding prices_refusal
returns c = rw (← c.in_ok-check_room.ensures, ← c.places_ok.ensures, c.if-places_ok.false)
