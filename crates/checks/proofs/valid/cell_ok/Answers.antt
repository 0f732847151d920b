-- `cell_ok` is the definition, test by test. Assumes nothing.
use borrow.Author.Tests.{le-leb, lt-leb, eq-eqb, ne_eqb}
use Rattle.instance.specs.Valid.{cell_ok}
use Rattle.checks.proofs.valid.cell_ok.Goals as goal

pub returns-then-weight-le-MAX_WEIGHT : goal.returns-then-weight-le-MAX_WEIGHT
unfolding cell_ok
returns-then-weight-le-MAX_WEIGHT c = simp (le-leb _ _ c.if-weight-le-MAX_WEIGHT.true)

pub returns-then-weight-eq-NO_ARC : goal.returns-then-weight-eq-NO_ARC
unfolding cell_ok
returns-then-weight-eq-NO_ARC c = simp (lt-leb _ _ c.if-weight-le-MAX_WEIGHT.false, eq-eqb _ _ c.if-weight-eq-NO_ARC.true)

pub returns : goal.returns
unfolding cell_ok
returns c = simp (lt-leb _ _ c.if-weight-le-MAX_WEIGHT.false, ne_eqb _ _ c.if-weight-eq-NO_ARC.false)
