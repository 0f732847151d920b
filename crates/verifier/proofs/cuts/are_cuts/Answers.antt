-- `are_cuts` judges the sets one after another: those that are left decide. Assumes nothing.
use mathlib.Core.Path.{refl, sym, ◌∙◌}
use mathlib.Core.Bool.{false}
use lib.Dec.{leb}
use lib.ListN.{length}
use borrow.Author.Tests.{le-leb, not-true, not-false}
use Rattle.base.proofs.BoolLaws.{and_false_right}
use Rattle.instance.specs.Limits.{max_cuts}
use Rattle.instance.specs.Matrix.{unmarked}
use Rattle.verifier.proofs.CutsLaws.{judging_more, judging_fails, judging_done}
use Rattle.verifier.proofs.cuts.are_cuts.Goals as goal

pub returns-then-not-is_cut : goal.returns-then-not-is_cut
returns-then-not-is_cut c =
    let a = c.args in
    let l = c.loop-set in
    let e = sym c.is_cut.ensures ∙ not-true _ c.if-not-is_cut.true-raw in
    let z = judging_fails (unmarked a.arcs.now.n a.arcs.now.root a.arcs.now.weights.now) a.cuts.now l.set-index c.loop-set-test.true l.invariant e in
    rw z (sym (and_false_right (leb (length a.cuts.now) max_cuts) false refl))

pub loop-set-preserved : goal.loop-set-preserved
loop-set-preserved c =
    let a = c.args in
    let l = c.loop-set in
    let e = sym c.is_cut.ensures ∙ not-false _ c.if-not-is_cut.false-raw in
    judging_more (unmarked a.arcs.now.n a.arcs.now.root a.arcs.now.weights.now) a.cuts.now l.set-index c.loop-set-test.true l.invariant e

pub returns : goal.returns
returns c =
    let a = c.args in
    let l = c.loop-set in
    let z = judging_done (unmarked a.arcs.now.n a.arcs.now.root a.arcs.now.weights.now) a.cuts.now l.set-index c.loop-set-test.false l.invariant in
    rw (z, le-leb _ _ c.if-cuts-gt-CUTS.false)
