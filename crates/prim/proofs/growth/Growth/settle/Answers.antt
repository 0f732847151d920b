-- The vertices that were passed have the nearer parent, and the others what they had. Assumes nothing.
use mathlib.Core.Path.{sym, ◌∙◌}
use native.Mathlib.Omega.{arith}
use Rattle.prim.proofs.StepLaws.{joined_set, joined_skip}
use Rattle.prim.proofs.growth.Growth.settle.Goals as goal
use Rattle.prim.proofs.growth.Growth.settle.Goals.{then-is_closer, else-is_closer}

pub loop-w-preserved : goal.loop-w-preserved
loop-w-preserved c =
    let a = c.args in
    let l = c.loop-w in
    let i = l.invariant in
    let small = l.self.small in
    let e = sym c.is_closer.ensures in
    elim c.if-is_closer.branch [
      | then-is_closer w ↦
          rw w.self-is record {
            passed = omega arith;
            n = i.n;
            settled = i.settled;
            parents = joined_set a.keys.now l.self.settled a.v a.self.now.parents l.self.parents l.w i.parents (omega arith) (e ∙ w.if-is_closer.true);
          }
      | else-is_closer w ↦
          rw w.self-is record {
            passed = omega arith;
            n = i.n;
            settled = i.settled;
            parents = joined_skip a.keys.now l.self.settled a.v a.self.now.parents l.self.parents l.w i.parents (e ∙ w.if-is_closer.false);
          }
    ]
