-- The vertices from v on are reached. Assumes nothing.
use mathlib.Core.Path.{◌≡◌, sym, ◌∙◌}
use native.Mathlib.Omega.{arith}
use borrow.Author.Tests.{not-true, not-false}
use Rattle.base.proofs.BoundedLaws.{all_none, all_fail, all_pass}
use Rattle.instance.specs.Cuts.{inside}
use Rattle.first_tree.proofs.growth.all_reached.Goals as goal

pub returns-then-not-is_inside : goal.returns-then-not-is_inside
returns-then-not-is_inside c =
    let l = c.loop-v in
    sym (l.invariant.1 ∙ all_fail l.v (inside c.args.reached) c.loop-v-test.true (sym c.is_inside.ensures ∙ not-true c.is_inside.result c.if-not-is_inside.true-raw))

pub loop-v-preserved : goal.loop-v-preserved
loop-v-preserved c =
    let l = c.loop-v in
    (omega arith, l.invariant.1 ∙ all_pass l.v (inside c.args.reached) c.loop-v-test.true (sym c.is_inside.ensures ∙ not-false c.is_inside.result c.if-not-is_inside.false-raw))

pub returns : goal.returns
returns c =
    let l = c.loop-v in
    let e : l.v ≡ 0 = omega arith in
    sym (l.invariant.1 ∙ rw e (all_none (inside c.args.reached)))
