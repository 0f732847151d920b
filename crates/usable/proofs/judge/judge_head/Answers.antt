-- The arcs from the tails that were passed are judged. Assumes nothing.
use Prim.Native.Nat.{◌≤◌, ◌<◌}
use native.Mathlib.Omega.{arith}
use lib.ListN.{get_or}
use Rattle.instance.specs.Instance.{cell}
use Rattle.paths.proofs.TreeLaws.{tail_below, own_weight, own_most}
use Rattle.usable.proofs.UsableLaws.{unusable_root, detour_bound}
use Rattle.usable.proofs.JudgeLaws.{head_unusable}
use Rattle.usable.proofs.judge.judge_head.Goals as goal

pub returns-then-head-plan : goal.returns-then-head-plan
returns-then-head-plan c =
    let a = c.args in
    let ok = c.requires.0.tree.matrix_ok in
    head_unusable _ a.head a.plan.n a.used.now c.requires.2
    (λ t l. unusable_root a.plan.n a.plan.root a.plan.limit a.plan.m.now t a.head ok.root_below ok.small l c.if-head-plan.true)

pub bounds-plan-tail : goal.bounds-plan-tail
bounds-plan-tail c = omega (arith, (let it : get_or c.args.plan.parents.now c.args.head 0 < c.args.plan.n = let a = c.args in tail_below a.plan.n a.plan.root a.plan.m.now a.plan.parents.now c.requires.0.tree a.head c.requires.1 c.if-head-plan.false in it))

pub overflow_sub-rest : goal.overflow_sub-rest
overflow_sub-rest c = (let it : get_or c.args.plan.m.now (cell (get_or c.args.plan.parents.now c.args.head 0) c.args.head) 0 ≤ c.args.plan.total = let a = c.args in let v = c.requires.0.is_total in let most = own_most a.plan.n a.plan.root a.plan.m.now a.plan.parents.now c.requires.0.tree a.head c.requires.1 c.if-head-plan.false in omega arith in it)

pub judge_arc-requires : goal.judge_arc-requires
judge_arc-requires c =
    let a = c.args in
    let plan = c.requires.0 in
    let k = plan.tree in
    let l = c.loop-t in
    let in-total = (let it : get_or c.args.plan.m.now (cell (get_or c.args.plan.parents.now c.args.head 0) c.args.head) 0 ≤ c.args.plan.total = let a = c.args in let v = c.requires.0.is_total in let most = own_most a.plan.n a.plan.root a.plan.m.now a.plan.parents.now c.requires.0.tree a.head c.requires.1 c.if-head-plan.false in omega arith in it) in
    let weight = own_weight a.plan.n a.plan.root a.plan.m.now a.plan.parents.now k a.head c.requires.1 c.if-head-plan.false in
    let v = plan.is_total in
    let within = plan.within in
    let most = plan.most in (
      record {
        matrix_ok = k.matrix_ok;
        costs = plan.costs;
        rest_most = omega arith;
        most = omega arith;
        tail_below = omega arith;
        head_below = c.requires.1;
        not_root = c.if-head-plan.false;
        bound = detour_bound _ _ l.t a.head _ _ (c.detour_costs-detour.ensures.at l.t (omega arith)) (omega arith);
      },
      l.invariant.1.sound,
    )
