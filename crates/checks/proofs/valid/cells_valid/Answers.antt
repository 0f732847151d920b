-- `cells_valid` judges every cell, from the last down. The invariant: the cells below k decide. Assumes nothing.
use mathlib.Core.Path.{◌≡◌, sym, ◌∙◌}
use native.Mathlib.Omega.{arith}
use borrow.Author.Tests.{not-true, not-false}
use Rattle.base.proofs.BoundedLaws.{all_none, all_fail, all_pass}
use Rattle.checks.proofs.valid.cells_valid.Goals as goal

pub returns-then-not-cell_valid : goal.returns-then-not-cell_valid
returns-then-not-cell_valid c =
    let l = c.loop-k in
    sym (l.invariant.1 ∙ all_fail l.k _ c.loop-k-test.true (sym c.cell_valid.ensures ∙ not-true _ c.if-not-cell_valid.true-raw))

pub loop-k-preserved : goal.loop-k-preserved
loop-k-preserved c =
    let l = c.loop-k in
    (omega arith, l.invariant.1 ∙ all_pass l.k _ c.loop-k-test.true (sym c.cell_valid.ensures ∙ not-false _ c.if-not-cell_valid.false-raw))

pub returns : goal.returns
returns c =
    let z : c.loop-k.k ≡ 0 = omega arith in
    sym (c.loop-k.invariant.1 ∙ rw z (all_none _))
