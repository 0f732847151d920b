-- `report` meets its contract: a short buffer, a refused card, a card that opens. Assumes nothing.
use mathlib.Core.Path.{refl}
use native.Mathlib.Omega.{arith}
use Rattle.instance.proofs.RefusalLaws.{not_0}
use Rattle.report.proofs.ReportLaws.{opened_good, refusal_room, too_short_reported, refusal_reported, card_reported}
use Rattle.report.proofs.reports.report.Goals as goal

pub returns-then-out-lt-MAX_TEXT : goal.returns-then-out-lt-MAX_TEXT
returns-then-out-lt-MAX_TEXT c = too_short_reported _ _ c.if-out-lt-MAX_TEXT.true

pub write_refusal-length-requires : goal.write_refusal-length-requires
write_refusal-length-requires c =
    let r = refusal_room _ _ c.in-Err.ensures in
    rw c.from-answer.ensures (omega (arith, c.if-out-lt-MAX_TEXT.false))

pub returns-in-Err : goal.returns-in-Err
returns-in-Err c =
    let l = c.write_refusal-length.ensures in
    rw c.from-answer.ensures (refusal_reported _ _ _ _ _ c.if-out-lt-MAX_TEXT.false c.in-Err.ensures (not_0 _) (rw c.from-answer.ensures at l))

pub report_board-length-requires : goal.report_board-length-requires
report_board-length-requires c = record { b_value = opened_good _ _ c.in-Ok.ensures refl; max_text_in_bounds = c.if-out-lt-MAX_TEXT.false }

pub returns-in-Ok : goal.returns-in-Ok
returns-in-Ok c = card_reported _ _ _ _ _ c.if-out-lt-MAX_TEXT.false c.in-Ok.ensures refl c.report_board-length.ensures
