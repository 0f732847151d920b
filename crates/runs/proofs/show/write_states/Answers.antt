-- The places that were passed are written, and the others are as they were. Assumes nothing.
use mathlib.Core.Path.{refl, ◌∙◌}
use native.Mathlib.Omega.{arith}
use lib.ListN.{length-set, take}
use Rattle.base.proofs.FrontLaws.{front_none, front_more}
use Rattle.prim.proofs.PlaceLaws.{first_placed, row_below}
use Rattle.runs.specs.Show.{place_state}
use Rattle.runs.proofs.show.write_states.Goals as goal

pub loop-k-init : goal.loop-k-init
loop-k-init c =
    let a = c.args in
    let e = c.first-place.ensures in (
      λ l. rw (e.0, e.1) (first_placed a.shown.now.n l),
      refl,
      front_none (place_state a.weights.now a.shown.now.keys.now a.shown.now.n (take a.shown.now.n a.shown.now.parents.now) a.shown.now.total a.shown.now.limit) a.states.now,
    )

pub place_state-state-requires : goal.place_state-state-requires
place_state-state-requires c = (c.requires.0, c.loop-k-test.true, c.loop-k.invariant.0 c.loop-k-test.true)

pub next-place-requires : goal.next-place-requires
next-place-requires c =
    let l = c.loop-k in
    let p = l.invariant.0 c.loop-k-test.true in
    (row_below c.args.shown.now.n l.k l.place.row l.place.column p c.loop-k-test.true, p.column)

pub loop-k-preserved : goal.loop-k-preserved
loop-k-preserved c =
    let a = c.args in
    let l = c.loop-k in
    let size = l.invariant.1 in (
      λ _. c.next-place.ensures l.k (l.invariant.0 c.loop-k-test.true),
      simp length-set size,
      front_more l.states a.states.now l.k c.from.result (place_state a.weights.now a.shown.now.keys.now a.shown.now.n (take a.shown.now.n a.shown.now.parents.now) a.shown.now.total a.shown.now.limit) (omega arith) l.invariant.2 (c.from.ensures ∙ c.place_state-state.ensures),
    )
