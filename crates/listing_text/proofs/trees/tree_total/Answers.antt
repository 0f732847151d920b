-- The loop has added the arcs into the vertices that it passed. Assumes nothing.
use mathlib.Core.Path.{◌≡◌, refl, sym, ap, ◌∙◌}
use Prim.Native.Nat.{ℕ, ◌+◌, ◌≤◌}
use native.Mathlib.Omega.{arith}
use Rattle.base.specs.Bounded.{sum_below}
use Rattle.base.proofs.SumLaws.{sum_more}
use Rattle.listing_text.proofs.TreeLaws.{added, sum_fits, total_added}
use Rattle.listing_text.proofs.trees.tree_total.Goals as goal

-- the sum with one arc more, and that it fits
next : (c : goal.After-weight_into-sum)
    → let a = c.args in
    let sum = sum_below (c.loop-v.v + 1) (added a.n a.root a.weights.now a.parents.now) in
    (c.loop-v.sum + c.weight_into-sum.result ≡ sum) × (sum ≤ 33554400)
next c =
    let l = c.loop-v in
    let f = added c.args.n c.args.root c.args.weights.now c.args.parents.now in
    let e = sum_more l.v f in (
      omega (arith, l.invariant.0, c.weight_into-sum.ensures),
      sum_fits c.args.n c.args.root c.args.weights.now c.args.parents.now c.requires.weights_len.0 c.requires.weights_len.1 (l.v + 1) (omega arith),
    )

pub loop-v-init : goal.loop-v-init
unfolding sum_below
loop-v-init c = (refl, omega arith)

pub overflow_add-sum : goal.overflow_add-sum
overflow_add-sum c = omega (arith, next c)

pub loop-v-preserved : goal.loop-v-preserved
loop-v-preserved c = ((next c).0, omega arith)

pub returns : goal.returns
returns c =
    let a = c.args in
    let e : c.loop-v.v ≡ a.n = omega arith in
    c.loop-v.invariant.0 ∙ ap (λ (k : ℕ). sum_below k (added a.n a.root a.weights.now a.parents.now)) e
    ∙ sym (total_added a.n a.root a.weights.now a.parents.now)
