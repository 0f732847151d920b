-- Digits that are a number, with the separator behind them. Assumes nothing.
use mathlib.Core.Path.{sym, ◌∙◌}
use native.Mathlib.Omega.{arith}
use borrow.Author.Tests.{not-true, not-false}
use Rattle.price_list.proofs.NumberLaws.{bad_digits, bad_separator, bad_end, good_number}
use Rattle.price_list.proofs.numbers.read_number.Goals as goal

pub returns-then-not-is_number : goal.returns-then-not-is_number
returns-then-not-is_number c =
    let d = c.scan_digits-digits in
    let n = c.is_number in
    bad_digits _ _ _ d.result.value d.result.end d.ensures (sym n.ensures ∙ not-true n.result c.if-not-is_number.true-raw)

pub returns-then-end-text : goal.returns-then-end-text
returns-then-end-text c =
    let d = c.scan_digits-digits in
    bad_end _ _ _ d.result.value d.result.end d.ensures c.requires.1 (omega (arith, c.if-end-text.true))

pub returns-then-text-end : goal.returns-then-text-end
returns-then-text-end c =
    let d = c.scan_digits-digits in
    bad_separator _ _ _ d.result.value d.result.end d.ensures c.if-text-end.true

pub returns : goal.returns
returns c =
    let d = c.scan_digits-digits in
    let n = c.is_number in
    good_number _ _ _ d.result.value d.result.end d.ensures (sym n.ensures ∙ not-false n.result c.if-not-is_number.false-raw) c.if-text-end.false
    (omega (arith, d.ensures.within, c.if-end-text.false))
