-- `arcs_covered` tries the tails from the last down: those below decide. Assumes nothing.
use mathlib.Core.Path.{◌≡◌, refl, sym, ◌∙◌}
use native.Mathlib.Omega.{arith}
use borrow.Author.Tests.{not-true, not-false}
use Rattle.base.proofs.BoundedLaws.{all_none, all_fail, all_pass}
use Rattle.instance.specs.Matrix.{unmarked}
use Rattle.verifier.proofs.cuts.arcs_covered.Goals as goal

pub loop-tail-init : goal.loop-tail-init
unfolding unmarked
loop-tail-init c = (omega arith, refl)

pub returns-then-not-arc_covered : goal.returns-then-not-arc_covered
returns-then-not-arc_covered c =
    let l = c.loop-tail in
    sym (l.invariant.1 ∙ all_fail l.tail _ c.loop-tail-test.true (sym c.arc_covered.ensures ∙ not-true _ c.if-not-arc_covered.true-raw))

pub loop-tail-preserved : goal.loop-tail-preserved
loop-tail-preserved c =
    let l = c.loop-tail in
    (omega arith, l.invariant.1 ∙ all_pass l.tail _ c.loop-tail-test.true (sym c.arc_covered.ensures ∙ not-false _ c.if-not-arc_covered.false-raw))

pub returns : goal.returns
returns c =
    let l = c.loop-tail in
    let z : l.tail ≡ 0 = omega arith in
    sym (l.invariant.1 ∙ rw z (all_none _))
