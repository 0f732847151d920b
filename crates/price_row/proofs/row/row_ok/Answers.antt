-- One number after the other, up to the first that is neither a price nor "no link". Assumes nothing.
use mathlib.Core.Path.{refl, sym, ◌∙◌}
use lib.ListN.{get_or}
use Rattle.base.proofs.ElementLaws.{all_of_here, all_of_next, all_of_end}
use Rattle.price_row.specs.Row.{price_ok, row_ok}
use Rattle.price_row.proofs.RowLaws.{unmarked_ok}
use Rattle.price_row.proofs.row.row_ok.Goals as goal

pub loop-w-init : goal.loop-w-init
unfolding row_ok
loop-w-init c = refl

pub returns-then-not-cell_ok : goal.returns-then-not-cell_ok
returns-then-not-cell_ok c =
    let row = c.args.row.now in
    let l = c.loop-w in
    sym (l.invariant ∙ all_of_here price_ok 0 row l.w-index c.loop-w-test.true (sym (unmarked_ok (get_or row l.w-index 0)) ∙ sym c.cell_ok.ensures ∙ c.if-not-cell_ok.true))

pub loop-w-preserved : goal.loop-w-preserved
loop-w-preserved c =
    let row = c.args.row.now in
    let l = c.loop-w in
    l.invariant ∙ all_of_next price_ok 0 row l.w-index c.loop-w-test.true (sym (unmarked_ok (get_or row l.w-index 0)) ∙ sym c.cell_ok.ensures ∙ c.if-not-cell_ok.false)

pub returns : goal.returns
returns c =
    let row = c.args.row.now in
    let l = c.loop-w in
    sym (l.invariant ∙ all_of_end price_ok 0 row l.w-index c.loop-w-test.false)
