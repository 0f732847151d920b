-- The least weight from outside, less the weight of the own arc and no less than 0. Assumes nothing.
use mathlib.Core.Path.{ap}
use Prim.Native.Nat.{ℕ, ◌<◌}
use native.Mathlib.Omega.{arith}
use lib.ListN.{get_or}
use Rattle.instance.specs.Instance.{cell}
use Rattle.paths.proofs.TreeLaws.{parent_read, tail_below}
use Rattle.detours.proofs.IncreaseLaws.{increase_some}
use Rattle.detours.proofs.increases.increase.Goals as goal

pub bounds-m-tail : goal.bounds-m-tail
bounds-m-tail c = omega (arith, (let it : get_or c.args.parents.now c.args.vertex 0 < c.args.n = tail_below c.args.n c.args.root c.args.m.now c.args.parents.now c.requires.0 c.args.vertex c.requires.1 c.if-vertex-root.false in it))

pub returns-then-least-own : goal.returns-then-least-own
returns-then-least-own c =
    let a = c.args in
    let p = parent_read a.n a.vertex a.parents.now c.requires.0.matrix_ok.small c.requires.0.places c.requires.1 in
    let own = ap (λ (t : ℕ). get_or a.m.now (cell t a.vertex) 0) p in
    let less = c.if-least-own.true in
    increase_some _ _ _ _ _ c.least_outside-least.result 0 c.least_outside-least.ensures c.if-least-eq-NO_ARC.false (omega arith)

pub returns : goal.returns
returns c =
    let a = c.args in
    let p = parent_read a.n a.vertex a.parents.now c.requires.0.matrix_ok.small c.requires.0.places c.requires.1 in
    let own = ap (λ (t : ℕ). get_or a.m.now (cell t a.vertex) 0) p in
    let more = c.if-least-own.false in
    increase_some _ _ _ _ _ c.least_outside-least.result _ c.least_outside-least.ensures c.if-least-eq-NO_ARC.false (omega arith)
