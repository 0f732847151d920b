-- No tail below t can be had. Assumes nothing.
use mathlib.Core.Path.{sym, ◌∙◌}
use native.Mathlib.Omega.{arith}
use lib.ListN.{take}
use Rattle.instance.specs.Matrix.{unmarked}
use Rattle.paths.proofs.TreeLaws.{tail_below}
use Rattle.narrowing.proofs.NarrowedLaws.{none_below_more}
use Rattle.first_tree.proofs.SearchLaws.{tree_at_hand, none_absent}
use Rattle.first_tree.proofs.least_parent.Goals as goal
use Rattle.first_tree.proofs.least_parent.Goals.{else-is_inside, then-is_inside+in_default}

pub is_inside-requires : goal.is_inside-requires
is_inside-requires c =
    let a = c.args in
    let h = tree_at_hand a.search.m.now a.search.cuts.now a.search.n a.search.root a.search.total a.search.from.0 a.search.count c.requires.0 a.vertex a.tails.now a.parents c.requires.1 in
    omega (arith, tail_below a.search.n a.search.root a.search.m.now a.parents h a.vertex c.requires.2 c.requires.3, c.requires.0.matrix_ok.small)

pub loop-t-preserved : goal.loop-t-preserved
loop-t-preserved c =
    let a = c.args in
    let l = c.loop-t in
    let more = none_below_more (unmarked a.search.n a.search.root a.search.m.now) _ a.search.total c.requires.0.proves a.vertex _ (take a.search.n a.parents) c.requires.1.narrowed l.t l.invariant.1 in (
      omega arith,
      elim c.if-is_inside.branch [
        | then-is_inside+in_default w ↦ more w.in_default.ensures.none
        | else-is_inside w ↦ more (none_absent a.search.m.now a.search.cuts.now a.search.n a.search.root a.search.total a.search.from.0 a.search.count c.requires.0 a.vertex a.tails.now a.parents c.requires.2 c.requires.3 c.requires.1 l.t (sym c.is_inside.ensures ∙ w.if-is_inside.false))
      ],
    )
