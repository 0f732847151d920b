-- The row ends within both lists, so either part can be taken; which one is handed back goes by the school's.
use mathlib.Core.Path.{sym, ap, ◌∙◌}
use Rattle.price_row.specs.Row.{has_price}
use Rattle.price_row.proofs.RowLaws.{part_is_row, chosen_own, chosen_shipped}
use Rattle.price_row.proofs.row.chosen_row.Goals as goal

pub returns-then-has_price : goal.returns-then-has_price
returns-then-has_price c =
    let a = c.args in
    let e = part_is_row a.n a.tail a.school.now in
    let h = ap has_price (sym e) ∙ sym c.has_price.ensures ∙ c.if-has_price.true in
    let w = chosen_own a.n a.tail a.school.now a.shipped.now a.school.ref_ptr a.shipped.ref_ptr h in
    (e ∙ w.0, w.1)

pub returns : goal.returns
returns c =
    let a = c.args in
    let e = part_is_row a.n a.tail a.shipped.now in
    let h = ap has_price (sym (part_is_row a.n a.tail a.school.now)) ∙ sym c.has_price.ensures ∙ c.if-has_price.false in
    let w = chosen_shipped a.n a.tail a.school.now a.shipped.now a.school.ref_ptr a.shipped.ref_ptr h in
    (e ∙ w.0, w.1)
