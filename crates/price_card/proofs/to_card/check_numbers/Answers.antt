-- One test after the other. Assumes nothing.
use borrow.Author.Tests.{lt-ltb, le-ltb, ne_eqb}
use Rattle.std.proofs.lemmas.Result.{err_from_is_err_and}
use Rattle.instance.proofs.RefusalLaws.{not_0}
use Rattle.price_card.specs.ToCard.{card_count_refusal}
use Rattle.price_card.proofs.to_card.check_numbers.Goals as goal

pub returns-in_err-check_count : goal.returns-in_err-check_count
unfolding card_count_refusal
returns-in_err-check_count c =
    let p = err_from_is_err_and c.from_residual.result c.from_residual.ensures.1 in
    let r = c.in_err-check_count.field-0.0 in
    rw (p.1, p.2, ← c.in_err-check_count.ensures, ne_eqb _ 0 (not_0 r))

pub returns-then-budget-gt-MAX_BUDGET : goal.returns-then-budget-gt-MAX_BUDGET
unfolding card_count_refusal
returns-then-budget-gt-MAX_BUDGET c = rw (← c.in_ok-check_count.ensures, lt-ltb _ _ c.if-budget-gt-MAX_BUDGET.true)

pub returns : goal.returns
unfolding card_count_refusal
returns c = rw (← c.in_ok-check_count.ensures, le-ltb _ _ c.if-budget-gt-MAX_BUDGET.false)
