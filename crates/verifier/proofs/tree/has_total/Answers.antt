-- `has_total` counts the total down: the arcs into the vertices below v are held against what is left. Assumes nothing.
use mathlib.Core.Path.{sym, subst}
use Prim.Native.Nat.{ℕ, ◌≤◌, ◌<◌}
use Rattle.verifier.proofs.TreeLaws.{paying_all, paying_less, paying_past, paying_none}
use Rattle.verifier.proofs.tree.has_total.Goals as goal

pub loop-v-init : goal.loop-v-init
loop-v-init c = paying_all _ _ _ _ _

pub returns-then-rest-weight : goal.returns-then-rest-weight
returns-then-rest-weight c =
    let a = c.args in
    let l = c.loop-v in
    let e = c.weight_into-weight.ensures in
    sym
    (paying_past a.arcs.now.n a.arcs.now.root a.arcs.now.weights.now a.parents.now a.total l.v l.rest c.loop-v-test.true l.invariant
    (subst (λ (x : ℕ). l.rest < x) e c.if-rest-weight.true))

pub loop-v-preserved : goal.loop-v-preserved
loop-v-preserved c =
    let a = c.args in
    let l = c.loop-v in
    let e = c.weight_into-weight.ensures in
    rw e
    (paying_less a.arcs.now.n a.arcs.now.root a.arcs.now.weights.now a.parents.now a.total l.v l.rest c.loop-v-test.true l.invariant
    (subst (λ (x : ℕ). x ≤ l.rest) e c.if-rest-weight.false))

pub returns : goal.returns
returns c =
    let a = c.args in
    let l = c.loop-v in
    paying_none a.arcs.now.n a.arcs.now.root a.arcs.now.weights.now a.parents.now a.total l.v l.rest c.loop-v-test.false l.invariant
