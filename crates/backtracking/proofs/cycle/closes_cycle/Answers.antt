-- `closes_cycle` goes from parent to parent: whether v is met in the steps that are left decides. Assumes nothing.
use mathlib.Core.Path.{◌≡◌, refl, sym, ◌∙◌}
use Prim.Native.Nat.{◌+◌, ◌-◌}
use native.Mathlib.Omega.{arith}
use lib.ListN.{take}
use Rattle.backtracking.proofs.CycleLaws.{path_over, path_up, path_last, prefix_length, prefix_parent}
use Rattle.backtracking.proofs.cycle.closes_cycle.Goals as goal

pub loop-init : goal.loop-init
loop-init c = let e : c.args.n - 0 ≡ c.args.n = omega arith in rw e refl

pub returns-then-v-at : goal.returns-then-v-at
returns-then-v-at c =
    let a = c.args in
    let l = c.loop in
    let size = prefix_length a.v a.parents.now c.told-parents (omega arith) in
    sym (l.invariant ∙ path_over a.v (take a.v a.parents.now) size (omega arith) (a.n - l.counter) l.at c.if-v-at.true)

pub loop-preserved : goal.loop-preserved
loop-preserved c =
    let a = c.args in
    let l = c.loop in
    let size = prefix_length a.v a.parents.now c.told-parents (omega arith) in
    let e = prefix_parent a.v a.parents.now c.told-parents (omega arith) l.at (omega arith) in
    let less : a.n - l.counter - 1 ≡ a.n - (l.counter + 1) = omega arith in
    l.invariant ∙ rw (← e, ← less) (path_up a.v (take a.v a.parents.now) size (omega arith) (a.n - l.counter) l.at (omega arith) (omega arith))

pub returns : goal.returns
returns c =
    let a = c.args in
    let l = c.loop in
    sym (l.invariant ∙ path_last (a.n - l.counter) a.v l.at (take a.v a.parents.now) (omega arith))
