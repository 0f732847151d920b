-- `reaches_root` goes from parent to parent: whether the root is met in the steps that are left decides. Assumes
-- nothing.
use mathlib.Core.Path.{◌≡◌, refl, sym, ◌∙◌}
use Prim.Native.Nat.{◌+◌, ◌-◌}
use native.Mathlib.Omega.{arith}
use lib.ListN.{take}
use Rattle.instance.specs.Arborescence.{reaches}
use Rattle.verifier.proofs.TreeLaws.{reach_here, reach_up, reach_lost, sent_length, sent_parent}
use Rattle.verifier.proofs.tree.reaches_root.Goals as goal

pub loop-init : goal.loop-init
loop-init c = let e : c.args.arcs.now.n - 0 ≡ c.args.arcs.now.n = omega arith in rw e refl

pub returns-then-v-arcs : goal.returns-then-v-arcs
returns-then-v-arcs c =
    let a = c.args in
    let l = c.loop in
    sym (l.invariant ∙ reach_here a.arcs.now.root (take a.arcs.now.n a.parents.now) (a.arcs.now.n - l.counter) l.v c.if-v-arcs.true)

pub returns-then-arcs-v : goal.returns-then-arcs-v
returns-then-arcs-v c =
    let a = c.args in
    let p = c.requires in
    let l = c.loop in
    let size = sent_length a.arcs.now.n a.parents.now p in
    sym (l.invariant ∙ reach_lost a.arcs.now.root (take a.arcs.now.n a.parents.now) (omega (arith, size)) (omega (arith, size)) (a.arcs.now.n - l.counter) l.v (omega (arith, size, c.if-arcs-v.true)))

pub loop-preserved : goal.loop-preserved
loop-preserved c =
    let a = c.args in
    let p = c.requires in
    let l = c.loop in
    let e = sent_parent a.arcs.now.n a.parents.now p l.v (omega (arith, c.if-arcs-v.false)) in
    let less : a.arcs.now.n - l.counter - 1 ≡ a.arcs.now.n - (l.counter + 1) = omega arith in
    l.invariant ∙ rw (e, ← less) (reach_up a.arcs.now.root (take a.arcs.now.n a.parents.now) (a.arcs.now.n - l.counter) l.v (omega arith) c.if-v-arcs.false)

pub returns : goal.returns
unfolding reaches
returns c =
    let l = c.loop in
    let z : c.args.arcs.now.n - l.counter ≡ 0 = omega arith in
    sym (l.invariant ∙ rw z)
