-- A limit is refused by its two tests. Assumes nothing.
use mathlib.Core.Path.{◌∙◌}
use borrow.Author.Tests.{eq-eqb, ne_eqb}
use Rattle.enumeration.specs.Walk.{limit_refused}
use Rattle.planner.proofs.enumerating.is_limit_refused.Goals as goal

pub returns-then-limit-eq0 : goal.returns-then-limit-eq0
unfolding limit_refused
returns-then-limit-eq0 c = let e = eq-eqb _ _ c.if-limit-eq0.true in rw e

pub returns-else-limit-eq0 : goal.returns-else-limit-eq0
unfolding limit_refused
returns-else-limit-eq0 c = let e = ne_eqb _ _ c.if-limit-eq0.false in rw e
