-- The tree so far is part of a cheapest one; each turn settles one vertex more. Assumes nothing.
use mathlib.Core.Path.{refl, sym, ◌∙◌}
use Prim.Native.Nat.{◌+◌, ◌≤◌}
use native.Mathlib.Omega.{arith}
use Rattle.base.specs.Bounded.{count_below}
use Rattle.base.proofs.CountingLaws.{count_le}
use Rattle.prim.specs.Growth.{is_settled}
use Rattle.prim.proofs.GrowthLaws.{growing_start, tails_start, growing_more, settled_more, grows_tree, grows_none}
use Rattle.prim.proofs.growth.grow.Goals as goal

pub invariant_of-tree : goal.invariant_of-tree
invariant_of-tree c = let p = c.requires in record { small = p.1; tails = tails_start c.args.n p.0 }

pub loop-v-init : goal.loop-v-init
loop-v-init c = let p = c.requires in (refl, growing_start c.args.keys.now c.args.n p.0 p.1)

pub returns-then-outside_key-eq-NO_KEY : goal.returns-then-outside_key-eq-NO_KEY
returns-then-outside_key-eq-NO_KEY c =
    let a = c.args in
    let l = c.loop-v in
    let v = c.in-Some in
    grows_none a.keys.now a.n c.requires.1 l.tree.settled l.tree.parents l.invariant.1 v.v (rw l.invariant.0 at v.ensures)
    (sym c.outside_key.ensures ∙ c.if-outside_key-eq-NO_KEY.true)

pub loop-v-smaller : goal.loop-v-smaller
loop-v-smaller c =
    let a = c.args in
    let l = c.loop-v in
    let v = c.in-Some in
    let more : count_below a.n (is_settled l.tree.settled) + 1 ≤ count_below a.n (is_settled c.settle.new.self.settled) =
    rw c.settle.ensures.settled
    (settled_more a.keys.now a.n c.requires.1 l.tree.settled l.tree.parents l.invariant.1 v.v (rw l.invariant.0 at v.ensures)) in
    let most = count_le a.n (is_settled c.settle.new.self.settled) in
    omega arith

pub loop-v-preserved : goal.loop-v-preserved
loop-v-preserved c =
    let a = c.args in
    let l = c.loop-v in
    let v = c.in-Some in
    let s = c.settle.ensures in (
      s.n ∙ l.invariant.0,
      rw s.settled
          (growing_more a.keys.now a.n c.requires.1 l.tree.settled l.tree.parents l.invariant.1 v.v (rw l.invariant.0 at v.ensures)
          (λ z. c.if-outside_key-eq-NO_KEY.false (c.outside_key.ensures ∙ z)) c.settle.new.self.parents (rw (s.settled, l.invariant.0) at s.parents)),
    )

pub returns : goal.returns
returns c =
    let a = c.args in
    let l = c.loop-v in
    grows_tree a.keys.now a.n c.requires.1 l.tree.settled l.tree.parents l.invariant.1 (rw l.invariant.0 at c.in_default.ensures)
