-- Three ways out, each a law of RowLaws.
use mathlib.Core.Path.{sym, ap, ◌∙◌}
use lib.ListN.{length}
use Rattle.price_row.specs.Row.{row_ok}
use Rattle.price_row.proofs.RowLaws.{room_passed, uses_refused, uses_out_of_range, uses_chosen}
use Rattle.price_row.proofs.row.row_used.Goals as goal

pub returns-then-refusal-ne0 : goal.returns-then-refusal-ne0
returns-then-refusal-ne0 c =
    let s = c.args in
    let w = c.room_answer-refusal in
    uses_refused s.count s.tail.0 s.school.now s.shipped.now s.school.ref_ptr s.shipped.ref_ptr w.result w.ensures c.if-refusal-ne0.true

pub chosen_row-row-requires : goal.chosen_row-row-requires
chosen_row-row-requires c =
    let s = c.args in
    let f = room_passed s.count s.tail.0 (length s.school.now) (length s.shipped.now) (sym c.room_answer-refusal.ensures ∙ c.if-refusal-ne0.false) in
    (f.small, f.below, f.first, f.second)

pub returns-then-row_ok : goal.returns-then-row_ok
returns-then-row_ok c =
    let s = c.args in
    let e = c.chosen_row-row.ensures in
    let z = sym c.room_answer-refusal.ensures ∙ c.if-refusal-ne0.false in
    rw (e.0, e.1)
    (uses_chosen s.count s.tail.0 s.school.now s.shipped.now s.school.ref_ptr s.shipped.ref_ptr z (ap row_ok (sym e.0) ∙ sym c.row_ok.ensures ∙ c.if-row_ok.true))

pub returns : goal.returns
returns c =
    let s = c.args in
    let e = c.chosen_row-row.ensures in
    let z = sym c.room_answer-refusal.ensures ∙ c.if-refusal-ne0.false in
    uses_out_of_range s.count s.tail.0 s.school.now s.shipped.now s.school.ref_ptr s.shipped.ref_ptr z
    (ap row_ok (sym e.0) ∙ sym c.row_ok.ensures ∙ c.if-row_ok.false)
