-- Each way answers by the comparisons that led there. Assumes nothing.
use mathlib.Core.Path.{sym, ◌∙◌}
use borrow.Author.Tests.{not-true, not-false}
use Rattle.witness.proofs.LimitLaws.{state_compared}
use Rattle.witness.proofs.state_by.Goals as goal

pub returns-then-not-is_unbeaten : goal.returns-then-not-is_unbeaten
returns-then-not-is_unbeaten c =
    let a = c.args in
    sym (state_compared a.budget a.forced a.deleted ∙ rw (sym c.is_unbeaten.ensures ∙ not-true c.is_unbeaten.result c.if-not-is_unbeaten.true-raw))

pub returns-then-is_unbeaten : goal.returns-then-is_unbeaten
returns-then-is_unbeaten c =
    let a = c.args in
    sym (state_compared a.budget a.forced a.deleted
    ∙ rw (sym c.is_unbeaten.ensures ∙ not-false c.is_unbeaten.result c.if-not-is_unbeaten.false-raw, sym c.is_unbeaten-2.ensures ∙ c.if-is_unbeaten.true))

pub returns : goal.returns
returns c =
    let a = c.args in
    sym (state_compared a.budget a.forced a.deleted
    ∙ rw (sym c.is_unbeaten.ensures ∙ not-false c.is_unbeaten.result c.if-not-is_unbeaten.false-raw, sym c.is_unbeaten-2.ensures ∙ c.if-is_unbeaten.false))
