-- `judge_cell` meets its contract: its tests are those of `cell_refusal`. Assumes nothing.
use borrow.Author.Tests.{le-leb, lt-leb, eq-eqb, ne_eqb}
use Rattle.card_format.specs.Card.{cell_refusal}
use Rattle.card.proofs.cells.judge_cell.Goals as goal

pub returns-then-mark-eq-UNUSED_MARK : goal.returns-then-mark-eq-UNUSED_MARK
unfolding cell_refusal
returns-then-mark-eq-UNUSED_MARK c = simp (le-leb _ _ c.if-weight-le-MAX_WEIGHT.true, eq-eqb _ _ c.if-mark-eq-UNUSED_MARK.true)

pub returns-then-weight-le-MAX_WEIGHT : goal.returns-then-weight-le-MAX_WEIGHT
unfolding cell_refusal
returns-then-weight-le-MAX_WEIGHT c = simp (le-leb _ _ c.if-weight-le-MAX_WEIGHT.true, ne_eqb _ _ c.if-mark-eq-UNUSED_MARK.false)

pub returns-then-weight-ne-NO_ARC : goal.returns-then-weight-ne-NO_ARC
unfolding cell_refusal
returns-then-weight-ne-NO_ARC c = simp (lt-leb _ _ c.if-weight-le-MAX_WEIGHT.false, ne_eqb _ _ c.if-weight-ne-NO_ARC.true)

pub returns-then-mark-ne-FREE : goal.returns-then-mark-ne-FREE
unfolding cell_refusal
returns-then-mark-ne-FREE c = simp (lt-leb _ _ c.if-weight-le-MAX_WEIGHT.false, eq-eqb _ _ c.if-weight-ne-NO_ARC.false, ne_eqb _ _ c.if-mark-ne-FREE.true)

pub returns : goal.returns
unfolding cell_refusal
returns c = simp (lt-leb _ _ c.if-weight-le-MAX_WEIGHT.false, eq-eqb _ _ c.if-weight-ne-NO_ARC.false, eq-eqb _ _ c.if-mark-ne-FREE.false)
