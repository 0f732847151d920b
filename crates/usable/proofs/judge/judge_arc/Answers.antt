-- Each way out says why the arc is usable or not. Assumes nothing.
use mathlib.Core.Path.{◌≡◌, sym, ◌∙◌}
use mathlib.Core.Bool.{true}
use mathlib.Core.List.{List}
use Prim.Native.Nat.{ℕ, ◌≤◌}
use native.Mathlib.Omega.{arith}
use lib.ListN.{get_or}
use Rattle.instance.specs.Limits.{max_vertices, no_arc}
use Rattle.instance.specs.Instance.{cell, weight}
use Rattle.instance.specs.Arborescence.{remaining}
use Rattle.instance.specs.Matrix.{unmarked}
use Rattle.instance.proofs.MatrixLaws.{matrix_weight_most}
use Rattle.usable.proofs.UsableLaws.{weight_on, present, reduced_most, usable_bound, unusable_loop, unusable_absent, unusable_reduced}
use Rattle.usable.proofs.JudgeLaws.{judged_unusable, judged_usable}
use Rattle.usable.proofs.judge.judge_arc.Goals as goal

-- once it is past the first three tests, the cell holds an arc
record Arc-facts (n root : ℕ) (m reduced : List ℕ) (t h : ℕ) : Type 0 where
  small : n ≤ max_vertices
  arc : remaining (unmarked n root m) t h ≡ true
  same : get_or m (cell t h) 0 ≡ weight (unmarked n root m) t h
  most : weight (unmarked n root m) t h ≤ no_arc
  lower : get_or reduced (cell t h) 0 ≤ no_arc

pub returns-then-tail-head : goal.returns-then-tail-head
returns-then-tail-head c =
    let a = c.args in
    judged_unusable _ a.used.now c.requires.1 a.tail a.head
    (unusable_loop a.plan.n a.plan.root a.plan.limit a.plan.m.now a.tail a.head c.requires.0.head_below c.requires.0.not_root c.if-tail-head.true)

pub returns-then-weight-eq-NO_ARC : goal.returns-then-weight-eq-NO_ARC
returns-then-weight-eq-NO_ARC c =
    let a = c.args in
    let p = c.requires.0 in
    judged_unusable _ a.used.now c.requires.1 a.tail a.head
    (unusable_absent a.plan.n a.plan.root a.plan.limit a.plan.m.now a.tail a.head p.head_below p.not_root (sym (weight_on a.plan.n a.plan.root a.plan.m.now p.matrix_ok a.tail a.head p.tail_below p.head_below) ∙ c.if-weight-eq-NO_ARC.true))

pub overflow_add-least : goal.overflow_add-least
overflow_add-least c =
    let k = (let it : Arc-facts c.args.plan.n c.args.plan.root c.args.plan.m.now c.args.plan.reduced.now c.args.tail c.args.head = let a = c.args in let p = c.requires.0 in let arc = present a.plan.n a.plan.root a.plan.m.now p.matrix_ok a.tail a.head p.tail_below p.head_below c.if-tail-head.false p.not_root c.if-weight-eq-NO_ARC.false in let most = matrix_weight_most a.plan.n a.plan.root a.plan.m.now p.matrix_ok a.tail a.head in let lower = reduced_most a.plan.n a.plan.root a.plan.total a.plan.m.now a.plan.reduced.now a.tail a.head p.costs arc in record { small = p.matrix_ok.small; arc = arc; same = weight_on a.plan.n a.plan.root a.plan.m.now p.matrix_ok a.tail a.head p.tail_below p.head_below; most = most; lower = omega arith } in it) in
    let most = c.requires.0.most in
    let lower = k.lower in
    omega arith

pub returns-then-limit-least : goal.returns-then-limit-least
returns-then-limit-least c =
    let a = c.args in
    judged_unusable _ a.used.now c.requires.1 a.tail a.head
    (unusable_reduced a.plan.n a.plan.root a.plan.limit a.plan.m.now a.tail a.head a.plan.reduced.now a.plan.total c.requires.0.costs ((let it : Arc-facts c.args.plan.n c.args.plan.root c.args.plan.m.now c.args.plan.reduced.now c.args.tail c.args.head = let a = c.args in let p = c.requires.0 in let arc = present a.plan.n a.plan.root a.plan.m.now p.matrix_ok a.tail a.head p.tail_below p.head_below c.if-tail-head.false p.not_root c.if-weight-eq-NO_ARC.false in let most = matrix_weight_most a.plan.n a.plan.root a.plan.m.now p.matrix_ok a.tail a.head in let lower = reduced_most a.plan.n a.plan.root a.plan.total a.plan.m.now a.plan.reduced.now a.tail a.head p.costs arc in record { small = p.matrix_ok.small; arc = arc; same = weight_on a.plan.n a.plan.root a.plan.m.now p.matrix_ok a.tail a.head p.tail_below p.head_below; most = most; lower = omega arith } in it)).arc c.if-limit-least.true)

pub exchange_fits-requires : goal.exchange_fits-requires
exchange_fits-requires c =
    let k = (let it : Arc-facts c.args.plan.n c.args.plan.root c.args.plan.m.now c.args.plan.reduced.now c.args.tail c.args.head = let a = c.args in let p = c.requires.0 in let arc = present a.plan.n a.plan.root a.plan.m.now p.matrix_ok a.tail a.head p.tail_below p.head_below c.if-tail-head.false p.not_root c.if-weight-eq-NO_ARC.false in let most = matrix_weight_most a.plan.n a.plan.root a.plan.m.now p.matrix_ok a.tail a.head in let lower = reduced_most a.plan.n a.plan.root a.plan.total a.plan.m.now a.plan.reduced.now a.tail a.head p.costs arc in record { small = p.matrix_ok.small; arc = arc; same = weight_on a.plan.n a.plan.root a.plan.m.now p.matrix_ok a.tail a.head p.tail_below p.head_below; most = most; lower = omega arith } in it) in
    let p = c.requires.0 in
    let rest = p.rest_most in
    let total = p.most in
    let weight = k.most in
    let same = k.same in
    let lower = k.lower in
    (omega arith, omega arith)

pub returns-then-exchange_fits : goal.returns-then-exchange_fits
returns-then-exchange_fits c =
    let a = c.args in
    let p = c.requires.0 in
    let k = (let it : Arc-facts c.args.plan.n c.args.plan.root c.args.plan.m.now c.args.plan.reduced.now c.args.tail c.args.head = let a = c.args in let p = c.requires.0 in let arc = present a.plan.n a.plan.root a.plan.m.now p.matrix_ok a.tail a.head p.tail_below p.head_below c.if-tail-head.false p.not_root c.if-weight-eq-NO_ARC.false in let most = matrix_weight_most a.plan.n a.plan.root a.plan.m.now p.matrix_ok a.tail a.head in let lower = reduced_most a.plan.n a.plan.root a.plan.total a.plan.m.now a.plan.reduced.now a.tail a.head p.costs arc in record { small = p.matrix_ok.small; arc = arc; same = weight_on a.plan.n a.plan.root a.plan.m.now p.matrix_ok a.tail a.head p.tail_below p.head_below; most = most; lower = omega arith } in it) in
    let l = k.small in
    let tail = p.tail_below in
    let in_head = p.head_below in
    let same = k.same in
    let fits = c.exchange_fits.ensures c.if-exchange_fits.true in
    let within = fits.1 in
    judged_usable _ a.used.now c.requires.1 a.tail a.head (omega arith) (omega arith)
    (usable_bound a.plan.n a.plan.root a.plan.limit a.plan.m.now a.tail a.head a.rest a.detour p.bound k.arc fits.0 (omega arith))

pub judge_by_planning-requires : goal.judge_by_planning-requires
judge_by_planning-requires c =
    (c.requires.0.matrix_ok, ((let it : Arc-facts c.args.plan.n c.args.plan.root c.args.plan.m.now c.args.plan.reduced.now c.args.tail c.args.head = let a = c.args in let p = c.requires.0 in let arc = present a.plan.n a.plan.root a.plan.m.now p.matrix_ok a.tail a.head p.tail_below p.head_below c.if-tail-head.false p.not_root c.if-weight-eq-NO_ARC.false in let most = matrix_weight_most a.plan.n a.plan.root a.plan.m.now p.matrix_ok a.tail a.head in let lower = reduced_most a.plan.n a.plan.root a.plan.total a.plan.m.now a.plan.reduced.now a.tail a.head p.costs arc in record { small = p.matrix_ok.small; arc = arc; same = weight_on a.plan.n a.plan.root a.plan.m.now p.matrix_ok a.tail a.head p.tail_below p.head_below; most = most; lower = omega arith } in it)).arc, c.requires.1)
