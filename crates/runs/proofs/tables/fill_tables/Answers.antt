-- Both tables are right between the vertices that are done; each turn makes one more done. Assumes nothing.
use mathlib.Core.Bool.{true}
use native.Mathlib.Omega.{arith}
use lib.ListN.{set}
use Rattle.base.proofs.CountingLaws.{count_le}
use Rattle.runs.specs.Tables.{is_done}
use Rattle.runs.proofs.TablesLaws.{tail_at}
use Rattle.runs.proofs.FillingLaws.{filling_first, filling_more, filled, v_undone, tail_other, done_more}
use Rattle.runs.proofs.tables.fill_tables.Goals as goal

pub loop-v-init : goal.loop-v-init
loop-v-init c = let a = c.args in filling_first a.keys.now a.n a.parents.now c.requires.1

pub bounds-keys-tail : goal.bounds-keys-tail
bounds-keys-tail c =
    let r = c.in-Some.ensures in
    let s = c.requires.1.places.small in
    omega (arith, tail_at c.args.n c.args.parents.now c.requires.1 c.in-Some.v r.0 r.1)

pub extend_below-requires : goal.extend_below-requires
extend_below-requires c = let r = c.in-Some.ensures in (c.requires.1.places.small, r.0, tail_at c.args.n c.args.parents.now c.requires.1 c.in-Some.v r.0 r.1)

pub extend_between-requires : goal.extend_between-requires
extend_between-requires c =
    let a = c.args in
    let l = c.loop-v in
    let r = c.in-Some.ensures in (
      c.requires.1.places.small,
      r.0,
      tail_at a.n a.parents.now c.requires.1 c.in-Some.v r.0 r.1,
      tail_other a.keys.now a.n a.parents.now c.requires.1 l.below l.between l.done l.invariant c.in-Some.v r.0 r.1 r.2,
      v_undone a.keys.now a.n a.parents.now c.requires.1 l.below l.between l.done l.invariant c.in-Some.v r.0 r.1 r.2,
    )

pub loop-v-smaller : goal.loop-v-smaller
loop-v-smaller c =
    let a = c.args in
    let l = c.loop-v in
    let r = c.in-Some.ensures in
    let m = done_more a.keys.now a.n a.parents.now c.requires.1 l.below l.between l.done l.invariant c.in-Some.v r.0 r.1 r.2 in
    let n = count_le a.n (is_done (set l.done c.in-Some.v true)) in
    omega arith

pub loop-v-preserved : goal.loop-v-preserved
loop-v-preserved c =
    let a = c.args in
    let l = c.loop-v in
    let r = c.in-Some.ensures in
    filling_more a.keys.now a.n a.parents.now c.requires.1 l.below l.between l.done l.invariant c.in-Some.v r.0 r.1 r.2 c.extend_below.new.below
    c.extend_between.new.between c.extend_below.ensures c.extend_between.ensures

pub returns : goal.returns
returns c =
    let a = c.args in
    let l = c.loop-v in
    filled a.keys.now a.n a.parents.now c.requires.1 l.below l.between l.done l.invariant c.in_default.ensures
