-- One test after the other; a difference of natural numbers ends at 0. Assumes nothing.
use mathlib.Core.Path.{◌∙◌}
use borrow.Author.Tests.{eq-eqb, ne_eqb}
use Rattle.spanning.specs.Keys.{no_key, cost_by}
use Rattle.runs.proofs.replacement.cost_by.Goals as goal
use Rattle.runs.proofs.replacement.cost_by.Goals.{then-own-eq0-via-then-own-eq0, then-own-eq0-via-else-own-eq0+then-least-eq-NO_KEY}

pub returns-then-own-eq0 : goal.returns-then-own-eq0
unfolding cost_by
returns-then-own-eq0 c =
    let a = c.args in
    elim c.then-own-eq0.branch [
      | then-own-eq0-via-then-own-eq0 w ↦ simp (eq-eqb a.own 0 w.if-own-eq0.true)
      | then-own-eq0-via-else-own-eq0+then-least-eq-NO_KEY w ↦ simp (ne_eqb a.own 0 w.if-own-eq0.false, eq-eqb a.least no_key w.if-least-eq-NO_KEY.true)
    ]

pub returns : goal.returns
unfolding cost_by
returns c = let a = c.args in c.saturating_sub.ensures ∙ rw (ne_eqb a.own 0 c.if-own-eq0.false, ne_eqb a.least no_key c.if-least-eq-NO_KEY.false)
