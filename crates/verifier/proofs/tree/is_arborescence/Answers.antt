-- `is_arborescence` tries the vertices from the last down: those below decide. Assumes nothing.
use mathlib.Core.Path.{◌≡◌, sym, ◌∙◌}
use native.Mathlib.Omega.{arith}
use borrow.Author.Tests.{not-true, not-false}
use Rattle.base.proofs.BoundedLaws.{all_none, all_fail, all_pass}
use Rattle.verifier.proofs.TreeLaws.{all_ok}
use Rattle.verifier.proofs.tree.is_arborescence.Goals as goal

pub loop-v-init : goal.loop-v-init
loop-v-init c = let a = c.args in (omega arith, all_ok a.arcs.now.n a.parents.now c.requires a.arcs.now.root a.arcs.now.weights.now)

pub returns-then-not-is_parent_ok : goal.returns-then-not-is_parent_ok
returns-then-not-is_parent_ok c =
    let l = c.loop-v in
    sym (l.invariant.1 ∙ all_fail l.v _ c.loop-v-test.true (sym c.is_parent_ok.ensures ∙ not-true _ c.if-not-is_parent_ok.true-raw))

pub loop-v-preserved : goal.loop-v-preserved
loop-v-preserved c =
    let l = c.loop-v in
    (omega arith, l.invariant.1 ∙ all_pass l.v _ c.loop-v-test.true (sym c.is_parent_ok.ensures ∙ not-false _ c.if-not-is_parent_ok.false-raw))

pub returns : goal.returns
returns c =
    let l = c.loop-v in
    let z : l.v ≡ 0 = omega arith in
    sym (l.invariant.1 ∙ rw z (all_none _))
