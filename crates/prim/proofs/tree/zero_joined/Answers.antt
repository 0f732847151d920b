-- The diagonal and keys above 0 pass; else the tree has to have the edge. Assumes nothing.
use mathlib.Core.Path.{sym, ap, ◌∙◌}
use mathlib.Core.Bool.{not}
use lib.ListN.{take}
use Rattle.base.proofs.BoolLaws.{not_both}
use borrow.Author.Tests.{eqb-true, eq-eqb, not-false}
use Rattle.prim.proofs.TreeLaws.{zero_same, zero_other, zero_joins}
use Rattle.prim.proofs.tree.zero_joined.Goals as goal
use Rattle.prim.proofs.tree.zero_joined.Goals.{then-i-j, else-i-j}

pub returns-then-keys-i-ne0 : goal.returns-then-keys-i-ne0
returns-then-keys-i-ne0 c =
    let a = c.args in
    elim c.if-i-j.branch [
      | then-i-j w ↦ c.if-keys-i-ne0.true ∙ zero_same a.keys.now (take a.n a.parents.now) a.i a.j w.if-i-j.true
      | else-i-j w ↦
          c.if-keys-i-ne0.true
          ∙ zero_other a.keys.now (take a.n a.parents.now) a.i a.j w.if-i-j.false
          (λ z. not_both _ (sym w.value-is ∙ c.if-keys-i-ne0.true) (ap not (eq-eqb _ 0 z)))
    ]

pub returns-else-keys-i-ne0 : goal.returns-else-keys-i-ne0
returns-else-keys-i-ne0 c =
    let a = c.args in
    elim c.if-i-j.branch [
      | then-i-j w ↦ absurd (not_both _ (w.value-is ∙ eq-eqb a.i a.j w.if-i-j.true) c.if-keys-i-ne0.false)
      | else-i-j w ↦
          c.is_joined.ensures
          ∙ zero_joins a.keys.now (take a.n a.parents.now) a.i a.j w.if-i-j.false (eqb-true _ 0 (not-false _ (sym w.value-is ∙ c.if-keys-i-ne0.false)))
    ]
