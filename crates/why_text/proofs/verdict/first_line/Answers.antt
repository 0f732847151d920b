-- The tests of the code are those of the definition. Assumes nothing.
use borrow.Author.Tests.{eq-eqb, ne_eqb}
use Rattle.why_text.specs.Verdict.{first_line}
use Rattle.why_text.proofs.verdict.first_line.Goals as goal

pub returns-then-state-eq-EXCLUDED : goal.returns-then-state-eq-EXCLUDED
unfolding first_line
returns-then-state-eq-EXCLUDED c = rw (eq-eqb _ _ c.if-state-eq-EXCLUDED.true) c.excluded_by.ensures

pub returns-then-state-eq-OPTIONAL : goal.returns-then-state-eq-OPTIONAL
unfolding first_line
returns-then-state-eq-OPTIONAL c = rw (ne_eqb _ _ c.if-state-eq-EXCLUDED.false, eq-eqb _ _ c.if-state-eq-OPTIONAL.true, c.outcome_total.ensures)

pub returns : goal.returns
unfolding first_line
returns c = rw (ne_eqb _ _ c.if-state-eq-EXCLUDED.false, ne_eqb _ _ c.if-state-eq-OPTIONAL.false) c.mandatory_by.ensures
