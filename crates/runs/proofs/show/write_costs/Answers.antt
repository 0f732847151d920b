-- The places that were passed are written, and the others are as they were. Assumes nothing.
use mathlib.Core.Path.{refl}
use native.Mathlib.Omega.{arith}
use lib.ListN.{get_or, length-set, take}
use Rattle.base.proofs.FrontLaws.{front_none, front_more}
use Rattle.prim.proofs.PlaceLaws.{first_placed, row_is, column_is, row_below}
use Rattle.runs.specs.Show.{cost_at}
use Rattle.runs.proofs.show.write_costs.Goals as goal

pub loop-k-init : goal.loop-k-init
loop-k-init c =
    let a = c.args in
    let e = c.first-place.ensures in
    (λ l. rw (e.0, e.1) (first_placed a.n l), refl, front_none (cost_at (take a.n a.parents.now) (λ v. get_or a.costs.now v 0) a.n) a.out.now)

pub cost_at-requires : goal.cost_at-requires
cost_at-requires c =
    let l = c.loop-k in
    let p = l.invariant.0 c.loop-k-test.true in
    (c.requires.0, row_below c.args.n l.k l.place.row l.place.column p c.loop-k-test.true, p.column)

pub next-place-requires : goal.next-place-requires
next-place-requires c =
    let l = c.loop-k in
    let p = l.invariant.0 c.loop-k-test.true in
    (row_below c.args.n l.k l.place.row l.place.column p c.loop-k-test.true, p.column)

pub loop-k-preserved : goal.loop-k-preserved
loop-k-preserved c =
    let a = c.args in
    let l = c.loop-k in
    let p = l.invariant.0 c.loop-k-test.true in
    let size = l.invariant.1 in (
      λ _. c.next-place.ensures l.k p,
      simp length-set size,
      front_more l.out a.out.now l.k c.cost_at.result (cost_at (take a.n a.parents.now) (λ v. get_or a.costs.now v 0) a.n) (omega arith) l.invariant.2
          (rw (row_is a.n l.k l.place.row l.place.column p, column_is a.n l.k l.place.row l.place.column p) c.cost_at.ensures),
    )
