-- A refused card, too little room, and the sheet. Assumes nothing.
use Rattle.instance.proofs.RefusalLaws.{not_0}
use mathlib.Core.Path.{sym, ◌∙◌, refl}
use Rattle.feed_planner.specs.Sheets.{sheet}
use Rattle.commands.proofs.ValidLaws.{valid_parts}
use Rattle.feed_planner.proofs.CardLaws.{open_valid, open_weights, open_marks}
use Rattle.feed_planner.proofs.SheetLaws.{sheet_room, sheet_card_refused, sheet_room_refused, sheet_shown}
use Rattle.feed_planner.proofs.sheets.feed_sheet.Goals as goal

pub returns-in-Err : goal.returns-in-Err
returns-in-Err c = rw c.from.ensures (sheet_card_refused _ _ c.in-Err.ensures _ (not_0 _))

pub is_sheet_short-requires : goal.is_sheet_short-requires
is_sheet_short-requires c =
    (valid_parts _ (open_valid _ _ c.in-Ok.ensures refl)).n_high

pub returns-then-is_sheet_short : goal.returns-then-is_sheet_short
returns-then-is_sheet_short c =
    sheet_room_refused _ _ c.in-Ok.ensures _ refl (sym c.is_sheet_short.ensures ∙ c.if-is_sheet_short.true)

pub copy_prices-requires : goal.copy_prices-requires
copy_prices-requires c =
    let r = sheet_room _ _ _ (sym c.is_sheet_short.ensures ∙ c.if-is_sheet_short.false) in
    ((valid_parts _ (open_valid _ _ c.in-Ok.ensures refl)).n_high, open_weights _ _ c.in-Ok.ensures refl, r.0)

pub copy_marks-requires : goal.copy_marks-requires
copy_marks-requires c =
    let r = sheet_room _ _ _ (sym c.is_sheet_short.ensures ∙ c.if-is_sheet_short.false) in
    ((valid_parts _ (open_valid _ _ c.in-Ok.ensures refl)).n_high, open_marks _ _ c.in-Ok.ensures refl, r.1)

pub returns : goal.returns
returns c =
    let a = c.args in
    let old = sheet a.n.now a.root.now a.budget.now a.records.now a.prices.now a.marks.now in
    let s = sheet_shown _ _ c.in-Ok.ensures old refl (sym c.is_sheet_short.ensures ∙ c.if-is_sheet_short.false) in
    rw (c.copy_prices.ensures, c.copy_marks.ensures) s
