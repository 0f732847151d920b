-- Refused, or read into a table and written from there. Assumes nothing.
use mathlib.Core.Path.{refl, sym}
use Rattle.std.proofs.lemmas.Result.{err_from_is_err_and}
use Rattle.instance.proofs.RefusalLaws.{not_0}
use Rattle.price_list.proofs.LineLaws.{table_none}
use Rattle.price_card.proofs.ListedLaws.{numbers_known}
use Rattle.price_card.proofs.ToCardLaws.{table_weights, numbers_refused, list_refused, card_written}
use Rattle.price_card.proofs.to_card.card_from_prices.Goals as goal

pub returns-in_err-check_numbers : goal.returns-in_err-check_numbers
returns-in_err-check_numbers c =
    let p = err_from_is_err_and c.from_residual.result c.from_residual.ensures.1 in
    rw (p.1, p.2.0, p.2.1) (numbers_refused _ _ _ _ _ _ c.in_err-check_numbers.ensures (not_0 _))

pub read_table-requires : goal.read_table-requires
read_table-requires c = let k = numbers_known _ _ _ (sym c.in_ok-check_numbers.ensures) in (k.small, table_none)

pub returns-in_err-read_table : goal.returns-in_err-read_table
returns-in_err-read_table c =
    let p = err_from_is_err_and c.from_residual-in_err-read_table.result c.from_residual-in_err-read_table.ensures.1 in
    let t = c.in_err-read_table.ensures in
    rw (p.1, p.2) (list_refused _ _ _ _ _ _ c.in_ok-check_numbers.ensures refl _ _ t.answer t.line (not_0 _))

pub write_instance-requires : goal.write_instance-requires
write_instance-requires c =
    let k = numbers_known _ _ _ (sym c.in_ok-check_numbers.ensures) in
    (k.some, k.small, k.root, c.read_table.ensures.holds.long, refl)

pub returns-in_err-write_instance : goal.returns-in_err-write_instance
returns-in_err-write_instance c =
    let p = err_from_is_err_and c.from_residual-in_err-write_instance.result c.from_residual-in_err-write_instance.ensures.1 in
    let t = c.in_ok-read_table.ensures in
    let same = table_weights _ _ t.holds.long t.holds.at in
    rw (p.1, p.2.0, p.2.1) (card_written _ _ _ _ _ _ c.in_ok-check_numbers.ensures refl _ _ same refl _ t.answer refl _ _ c.in_err-write_instance.ensures)

pub returns : goal.returns
returns c =
    let t = c.in_ok-read_table.ensures in
    let same = table_weights _ _ t.holds.long t.holds.at in
    card_written _ _ _ _ _ _ c.in_ok-check_numbers.ensures refl _ _ same refl _ t.answer refl _ _ c.in_ok-write_instance.ensures
