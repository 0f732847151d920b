-- The path is followed as long as it comes by vertices below this one, where every tree that begins alike has the same
-- parents; a parent is less deep. Assumes nothing.
use mathlib.Core.Path.{◌∙◌, subst}
use Prim.Native.Nat.{ℕ, ◌<◌}
use native.Mathlib.Omega.{arith}
use Rattle.std.proofs.Common.{rules}
use borrow.Author.Tests.{eqb-true}
use Rattle.paths.specs.Paths.{Descends}
use Rattle.paths.proofs.TreeLaws.{parent_read, rooted_tail, step_falls}
use Rattle.paths.proofs.PathLaws.{descends_here, descends_up}
use Rattle.first_tree.proofs.attempt.leads_back.Goals as goal

pub returns-then-vertex-v : goal.returns-then-vertex-v
returns-then-vertex-v c = λ e. λ qs g. c.loop-v.invariant.1 qs g (descends_here qs _ c.loop-v.v (eqb-true _ _ e))

pub loop-v-smaller : goal.loop-v-smaller
loop-v-smaller c =
    step_falls c.args.n c.args.root c.loop-v.v c.args.parents.now c.requires.0 (search rules) c.requires.1 (omega arith) c.loop-v-test.true

pub loop-v-preserved : goal.loop-v-preserved
loop-v-preserved c =
    let l = c.loop-v in
    let p = parent_read c.args.n l.v c.args.parents.now c.requires.0 (search rules) l.invariant.0 in
    let up = rooted_tail c.args.n c.args.root l.v c.args.parents.now c.requires.0 (search rules) c.requires.1 l.invariant.0 c.loop-v-test.true in
    let low : l.v < c.args.vertex = omega (arith, c.if-vertex-v.false) in (
      up,
      λ qs g d. l.invariant.1 qs g (descends_up qs c.args.vertex l.v (subst (λ (x : ℕ). Descends qs c.args.vertex x) (p ∙ g l.v low) d)),
    )
