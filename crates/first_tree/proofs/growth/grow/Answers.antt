-- The tree has grown by whole rounds; where the last one added nothing, nothing more can be reached. What was reached
-- before the last round is more with each. Assumes nothing.
use mathlib.Core.Path.{subst}
use Prim.Native.Nat.{ℕ, ◌<◌}
use native.Mathlib.Omega.{arith}
use Rattle.std.proofs.Common.{rules}
use lib.ListN.{length-replicate}
use lib.Pow.{pow_pos, pow-lt}
use Rattle.instance.specs.Limits.{max_vertices, no_parent}
use Rattle.instance.proofs.SetBits.{one_shifted}
use Rattle.first_tree.specs.Growth.{NothingNew}
use Rattle.first_tree.proofs.GrowthLaws.{growing_root, grown_tree}
use Rattle.first_tree.proofs.growth.grow.Goals as goal

pub loop-last-init : goal.loop-last-init
loop-last-init c =
    let a = c.args in
    let p = c.requires in
    let l : a.search.root < 32 = omega (arith, p.0, p.1) in
    rw (one_shifted a.search.root l) (
      record { small = p.0; from_within = p.2; few = p.3; size = search rules; below = pow-lt {i = a.search.root} {j = a.search.n} p.1; places = length-replicate {A = ℕ} max_vertices no_parent },
      growing_root a.search.n a.search.root a.search.from.0 a.search.count a.tails.now p.0,
      omega arith,
      λ e. absurd (omega (arith, pow_pos a.search.root)),
    )

pub loop-last-preserved : goal.loop-last-preserved
loop-last-preserved c =
    let a = c.args in
    let i = c.loop-last.invariant in
    let g = c.grow_round-reached.ensures in (
      g.in_range,
      g.growing a.search.root a.tails.now i.1,
      g.least,
      λ e. subst (λ (x : ℕ). NothingNew a.search.from.0 a.search.count 0 a.search.n a.tails.now x c.grow_round-reached.result) e (g.nothing_new a.search.root a.tails.now i.1),
    )

pub returns : goal.returns
returns c =
    let a = c.args in
    let l = c.loop-last in
    let i = l.invariant in
    grown_tree a.search.n a.search.root a.search.from.0 a.search.count a.tails.now l.left l.reached l.parents i.0 i.1 (i.3 c.loop-last-test.false)
