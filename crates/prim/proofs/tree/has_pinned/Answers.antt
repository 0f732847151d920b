-- Every place that was passed has passed the test. Assumes nothing.
use mathlib.Core.Path.{sym, ◌∙◌}
use lib.ListN.{take}
use Rattle.prim.proofs.PlaceLaws.{first_placed, row_is, column_is, row_below}
use Rattle.prim.proofs.TreeLaws.{zeros_first, zeros_fail, zeros_more, zeros_all}
use Rattle.prim.proofs.tree.has_pinned.Goals as goal

pub loop-init : goal.loop-init
loop-init c =
    let a = c.args in
    let e = c.first-place.ensures in
    (λ l. rw (e.0, e.1) (first_placed a.n l), zeros_first a.keys.now a.n (take a.n a.parents.now))

pub zero_joined-requires : goal.zero_joined-requires
zero_joined-requires c =
    let l = c.loop in
    let p = l.invariant.0 c.loop-test.true in
    (c.requires, row_below c.args.n l.counter l.place.row l.place.column p c.loop-test.true, p.column)

pub returns-then-not-zero_joined : goal.returns-then-not-zero_joined
returns-then-not-zero_joined c =
    let a = c.args in
    let l = c.loop in
    let p = l.invariant.0 c.loop-test.true in
    zeros_fail a.keys.now a.n (take a.n a.parents.now) l.counter c.loop-test.true
    (rw (row_is a.n l.counter l.place.row l.place.column p, column_is a.n l.counter l.place.row l.place.column p) (sym c.zero_joined.ensures ∙ c.if-not-zero_joined.true))

pub next-place-requires : goal.next-place-requires
next-place-requires c =
    let l = c.loop in
    let p = l.invariant.0 c.loop-test.true in
    (row_below c.args.n l.counter l.place.row l.place.column p c.loop-test.true, p.column)

pub loop-preserved : goal.loop-preserved
loop-preserved c =
    let a = c.args in
    let l = c.loop in
    let p = l.invariant.0 c.loop-test.true in (
      λ _. c.next-place.ensures l.counter p,
      zeros_more a.keys.now a.n (take a.n a.parents.now) l.counter l.invariant.1
          (rw (row_is a.n l.counter l.place.row l.place.column p, column_is a.n l.counter l.place.row l.place.column p) (sym c.zero_joined.ensures ∙ c.if-not-zero_joined.false)),
    )

pub returns : goal.returns
returns c =
    let a = c.args in
    let l = c.loop in
    zeros_all a.keys.now a.n (take a.n a.parents.now) l.counter c.loop-test.false l.invariant.1
