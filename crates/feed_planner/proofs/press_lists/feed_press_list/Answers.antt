-- The card's refusal, too few numbers, too little room, and the card after the presses. Assumes nothing.
use mathlib.Core.Path.{sym, refl}
use Rattle.std.specs.Prelude.{Ok, Err}
use Rattle.instance.proofs.RefusalLaws.{eqb_0, not_0}
use Rattle.card.specs.Write.{written_of}
use Rattle.feed_planner.proofs.CardLaws.{open_valid}
use Rattle.feed_planner.proofs.PressListCard.{list_card_refused, list_numbers_refused, list_numbers_enough, list_stored}
use Rattle.feed_planner.proofs.press_lists.feed_press_list.Goals as goal

pub returns-in-Err : goal.returns-in-Err
returns-in-Err c = rw c.from.ensures (list_card_refused _ _ _ _ _ c.in-Err.ensures _ _ _ _ (not_0 _))

pub returns-in-Err-check_numbers : goal.returns-in-Err-check_numbers
returns-in-Err-check_numbers c =
    rw c.from-in-Err-check_numbers.ensures (list_numbers_refused _ _ _ _ _ c.in-Ok.ensures refl _ _ _ _ _ c.in-Err-check_numbers.ensures (not_0 c.in-Err-check_numbers.refusal))

pub press_all-made-requires : goal.press_all-made-requires
press_all-made-requires c =
    let l = list_numbers_enough _ _ _ (sym c.in_default.ensures) in
    (open_valid _ _ c.in-Ok.ensures refl, l.0, l.1)

pub returns-in-Err-write_history : goal.returns-in-Err-write_history
returns-in-Err-write_history c =
    let d = c.press_all-made in
    let a = c.args in
    let e = c.in-Err-write_history.refusal in
    let s = list_stored _ _ _ _ _ c.in-Ok.ensures refl d.result d.new.b _ _ a.length.now a.applied.now a.stopped.now (written_of (Err e)) c.in_default.ensures d.ensures.0 c.in-Err-write_history.ensures in
    rw c.from-in-Err-write_history.ensures (rw (eqb_0 e) at s)

pub returns : goal.returns
returns c =
    let d = c.press_all-made in
    let a = c.args in
    list_stored _ _ _ _ _ c.in-Ok.ensures refl d.result d.new.b _ _ a.length.now a.applied.now a.stopped.now (written_of (Ok c.in-Ok-write_history.written)) c.in_default.ensures d.ensures.0 c.in-Ok-write_history.ensures
