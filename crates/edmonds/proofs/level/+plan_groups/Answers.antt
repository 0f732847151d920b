-- `edmonds::level::plan_groups` meets its contract: one level by the laws of PlainLevelLaws and CycleLevelLaws, one law
-- for each way to return. The measure is the bound on the number of groups. Assumes nothing.
use native.Mathlib.Omega.{arith}
use Rattle.std.proofs.Common.{rules}
use Rattle.edmonds.proofs.PlainLevelLaws.{solved_plain}
use Rattle.edmonds.proofs.CycleLevelLaws.{three, stopped, contracted_plannable, none_below, entered, expands}
use Rattle.edmonds.proofs.level.+plan_groups.Goals as goal

pub returns-in_default-clause-ok : goal.returns-in_default-clause-ok
returns-in_default-clause-ok t c = solved_plain c.requires.0 c.in_default.ensures.none c.own_parents.ensures

pub charge_group-requires : goal.charge_group-requires
charge_group-requires t c =
    let r = c.requires.0 in
    let mt = c.in-Some.ensures.some in
    let h = three r mt c.contracted_labels-coarse.ensures in
    let room = c.requires.1 in
    (r.small, mt.walk.v_below, omega arith)

pub returns-in_err-chosen-clause-err : goal.returns-in_err-chosen-clause-err
returns-in_err-chosen-clause-err t c =
    let unentered = stopped c.requires.0 c.in-Some.ensures.some c.contracted_labels-coarse.ensures c.in_err-chosen.ensures.err in search rules

pub returns-in_err-tree-clause-err : goal.returns-in_err-tree-clause-err
returns-in_err-tree-clause-err t c =
    let unentered = none_below c.requires.0 c.in-Some.ensures.some c.contracted_labels-coarse.ensures c.in_ok-chosen.ensures.ok c.in_err-tree.ensures.err in search rules

pub plan_groups-requires : goal.plan_groups-requires
plan_groups-requires t c =
    let r = c.requires.0 in
    let mt = c.in-Some.ensures.some in
    let ct = c.contracted_labels-coarse.ensures in
    let ch = c.in_ok-chosen.ensures.ok in
    let h = three r mt ct in
    let most = ch.most in
    let room = c.requires.1 in
    (omega arith, (rw (c.replaced-tails2.ensures, c.replaced-heads2.ensures) (contracted_plannable r mt ct ch), omega arith))

pub expand_cycle-requires : goal.expand_cycle-requires
expand_cycle-requires t c =
    let r = c.requires.0 in
    let mt = c.in-Some.ensures.some in
    let so = c.in_ok-tree.ensures.ok in
    (r.small, mt.walk.v_below, r.labels.below, entered r mt c.contracted_labels-coarse.ensures c.in_ok-chosen.ensures.ok so)

pub returns-clause-ok : goal.returns-clause-ok
returns-clause-ok t c =
    let ex = c.expand_cycle.ensures in
    expands c.requires.0 c.in-Some.ensures.some c.contracted_labels-coarse.ensures c.in_ok-chosen.ensures.ok c.in_ok-tree.ensures.ok ex.entry ex.expanded
