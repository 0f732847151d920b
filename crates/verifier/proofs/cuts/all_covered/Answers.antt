-- `all_covered` tries the heads from the last down: those below decide. Assumes nothing.
use mathlib.Core.Path.{◌≡◌, refl, sym, ◌∙◌}
use native.Mathlib.Omega.{arith}
use borrow.Author.Tests.{not-true, not-false}
use Rattle.base.proofs.BoundedLaws.{all_none, all_fail, all_pass}
use Rattle.instance.specs.Arborescence.{each_remaining}
use Rattle.instance.specs.Matrix.{unmarked}
use Rattle.verifier.proofs.cuts.all_covered.Goals as goal

pub loop-head-init : goal.loop-head-init
unfolding each_remaining unmarked
loop-head-init c = (omega arith, refl)

pub returns-then-not-head_covered : goal.returns-then-not-head_covered
returns-then-not-head_covered c =
    let l = c.loop-head in
    sym (l.invariant.1 ∙ all_fail l.head _ c.loop-head-test.true (sym c.head_covered.ensures ∙ not-true _ c.if-not-head_covered.true-raw))

pub loop-head-preserved : goal.loop-head-preserved
loop-head-preserved c =
    let l = c.loop-head in
    (omega arith, l.invariant.1 ∙ all_pass l.head _ c.loop-head-test.true (sym c.head_covered.ensures ∙ not-false _ c.if-not-head_covered.false-raw))

pub returns : goal.returns
returns c =
    let l = c.loop-head in
    let z : l.head ≡ 0 = omega arith in
    sym (l.invariant.1 ∙ rw z (all_none _))
