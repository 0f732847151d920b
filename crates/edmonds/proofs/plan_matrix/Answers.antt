-- `edmonds::plan_matrix` meets its contract. The loop has charged the vertices below v. Assumes nothing.
use mathlib.Core.Path.{refl}
use native.Mathlib.Omega.{arith}
use Rattle.std.proofs.Common.{rules}
use Rattle.edmonds.proofs.FirstChargeLaws.{none_charged, pass_root, none_enters, one_charged, begun_plannable, room}
use Rattle.edmonds.proofs.PlannedLaws.{none_planned, none_left_planned, addable, planned}
use Rattle.edmonds.proofs.plan_matrix.Goals as goal
use Rattle.edmonds.proofs.plan_matrix.Goals.{else-g-r, then-g-r+in_ok-chosen}

pub loop-v-init : goal.loop-v-init
loop-v-init c = (omega arith, none_charged refl refl)

pub returns-in_err-chosen-clause-err : goal.returns-in_err-chosen-clause-err
returns-in_err-chosen-clause-err c =
    let pre = c.requires in
    let none =
    none_planned c.args.w.now c.args.n c.args.root.0 pre
    (none_enters pre.small c.own_labels-label.ensures pre.root_below c.loop-v.invariant.1 c.loop-v-test.true c.if-g-r.true c.in_err-chosen.ensures.err) in
    search rules

pub loop-v-preserved : goal.loop-v-preserved
loop-v-preserved c =
    let pre = c.requires in
    let b = c.loop-v.invariant.1 in (
      omega arith,
      elim c.if-g-r.branch [
        | then-g-r+in_ok-chosen w ↦ rw (w.w-is, w.cuts-is, w.tails-is, w.heads-is, w.next-is)
            (one_charged pre.small c.own_labels-label.ensures pre.root_below b c.loop-v-test.true w.if-g-r.true w.in_ok-chosen.ensures.ok)
        | else-g-r w ↦ rw (w.w-is, w.cuts-is, w.tails-is, w.heads-is, w.next-is) (pass_root pre.small c.own_labels-label.ensures pre.root_below b w.if-g-r.false)
      ],
    )

pub plan_groups-requires : goal.plan_groups-requires
plan_groups-requires c =
    let pre = c.requires in
    let b = c.loop-v.invariant.1 in (
      begun_plannable pre.small c.own_labels-label.ensures pre.root_below b c.loop-v-test.false c.loop-v.invariant.0 c.group_bound-left.ensures,
      room pre.small c.own_labels-label.ensures pre.root_below b c.loop-v-test.false c.loop-v.invariant.0 c.group_bound-left.ensures,
    )

pub returns-in_err-tree-clause-err : goal.returns-in_err-tree-clause-err
returns-in_err-tree-clause-err c =
    let none =
    none_left_planned c.args.w.now c.args.n c.args.root.0 c.requires c.own_labels-label.ensures c.loop-v.invariant.1 c.loop-v-test.false c.loop-v.invariant.0
    c.group_bound-left.ensures c.in_err-tree.ensures.err in
    search rules

pub cut_total-requires : goal.cut_total-requires
cut_total-requires c =
    addable _ _ _ c.requires c.own_labels-label.ensures c.loop-v.invariant.1 c.loop-v-test.false c.loop-v.invariant.0 c.group_bound-left.ensures c.in_ok-tree.ensures.ok

pub returns-clause-ok : goal.returns-clause-ok
returns-clause-ok c =
    rw c.cut_total.ensures
    (planned _ _ _ c.requires c.own_labels-label.ensures c.loop-v.invariant.1 c.loop-v-test.false c.loop-v.invariant.0 c.group_bound-left.ensures
    c.in_ok-tree.ensures.ok (search rules) (search rules) (search rules))
