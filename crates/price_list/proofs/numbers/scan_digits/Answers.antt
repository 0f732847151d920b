-- What was read and the digits that are left make up the number. Assumes nothing.
use mathlib.Core.Path.{sym, ◌∙◌}
use borrow.Author.Tests.{not-true, not-false}
use Rattle.price_list.proofs.NumberLaws.{scan_start, scan_more, scan_end, digits_end, digits_none}
use Rattle.price_list.proofs.numbers.scan_digits.Goals as goal

pub loop-end-init : goal.loop-end-init
loop-end-init c = scan_start _ _ c.requires

pub loop-end-preserved : goal.loop-end-preserved
loop-end-preserved c =
    let l = c.loop-end in
    scan_more _ _ l.value l.end l.invariant c.appended-value.result c.loop-end-test.true
    (sym c.is_digit.ensures ∙ not-false c.is_digit.result c.if-not-is_digit.false-raw) c.appended-value.ensures

pub returns-after-loop-end : goal.returns-after-loop-end
returns-after-loop-end c =
    let l = c.loop-end in
    scan_end _ _ l.value l.end l.invariant (digits_end _ l.end c.loop-end-test.false)

pub returns-then-not-is_digit : goal.returns-then-not-is_digit
returns-then-not-is_digit c =
    let l = c.loop-end in
    scan_end _ _ l.value l.end l.invariant
    (digits_none _ l.end c.loop-end-test.true (sym c.is_digit.ensures ∙ not-true c.is_digit.result c.if-not-is_digit.true-raw))
