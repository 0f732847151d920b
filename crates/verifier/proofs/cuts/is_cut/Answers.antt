-- `is_cut` is the definition: a set of vertices below n is a number below 2 ^ n. Assumes nothing.
use mathlib.Core.Path.{sym, ap, ◌∙◌}
use mathlib.Core.Bool.{not}
use borrow.Author.Tests.{eq-eqb}
use Rattle.base.proofs.BoolLaws.{not_both}
use Rattle.instance.specs.Matrix.{unmarked}
use Rattle.verifier.proofs.CutsLaws.{empty_set, large_set, judged_set}
use Rattle.verifier.proofs.cuts.is_cut.Goals as goal
use Rattle.verifier.proofs.cuts.is_cut.Goals.{then-set-ne0, else-set-ne0}

pub returns-then-is_below : goal.returns-then-is_below
unfolding unmarked
returns-then-is_below c =
    let a = c.args in
    elim c.if-set-ne0.branch [
      | then-set-ne0 w ↦ ap not c.is_inside.ensures ∙ judged_set (unmarked a.arcs.now.n a.arcs.now.root a.arcs.now.weights.now) a.set w.if-set-ne0.true (sym w.is_below.ensures ∙ sym w.value-is ∙ c.if-is_below.true)
      | else-set-ne0 w ↦ absurd (not_both _ c.if-is_below.true (w.value-is ∙ ap not (eq-eqb a.set 0 w.if-set-ne0.false)))
    ]

pub returns-else-is_below : goal.returns-else-is_below
unfolding unmarked
returns-else-is_below c =
    let a = c.args in
    elim c.if-set-ne0.branch [
      | then-set-ne0 w ↦ c.if-is_below.false ∙ large_set (unmarked a.arcs.now.n a.arcs.now.root a.arcs.now.weights.now) a.set (sym w.is_below.ensures ∙ sym w.value-is ∙ c.if-is_below.false)
      | else-set-ne0 w ↦ c.if-is_below.false ∙ empty_set (unmarked a.arcs.now.n a.arcs.now.root a.arcs.now.weights.now) a.set w.if-set-ne0.false
    ]
