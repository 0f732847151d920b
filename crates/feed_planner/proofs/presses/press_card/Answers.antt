-- Each return of `press_card` by its law. Assumes nothing.
use mathlib.Core.Path.{refl}
use Rattle.instance.proofs.RefusalLaws.{not_0}
use Rattle.card.specs.Write.{written_of}
use Rattle.feed_planner.proofs.PressLaws.{card_not_pressed, press_refused, next_valid, press_stored}
use Rattle.feed_planner.proofs.presses.press_card.Goals as goal

pub returns-in-Err : goal.returns-in-Err
returns-in-Err c = rw c.from.ensures (card_not_pressed _ _ _ c.in-Err.ensures _ _ (not_0 _))

pub returns-in-Err-execute : goal.returns-in-Err-execute
returns-in-Err-execute c =
    rw c.from-in-Err-execute.ensures (press_refused _ _ _ c.in-Ok.ensures refl _ c.in-Err-execute.ensures _ _ (not_0 c.in-Err-execute.refusal))

pub write_history-requires : goal.write_history-requires
write_history-requires c = next_valid _ _ _ c.in-Ok.ensures refl _ c.in_default.ensures

pub returns : goal.returns
returns c =
    let w = c.write_history in
    let s = press_stored _ _ _ c.in-Ok.ensures refl _ c.in_default.ensures _ _ _ (written_of w.result) refl w.ensures in
    rw (c.keep_written.ensures.0, c.keep_written.ensures.1) s
