-- The path goes on as long as neither the head nor the root is met; a parent is less deep. Assumes nothing.
use native.Mathlib.Omega.{arith}
use Rattle.std.proofs.Common.{rules}
use Rattle.paths.proofs.TreeLaws.{parent_read, rooted_tail, step_falls}
use Rattle.paths.proofs.PathLaws.{root_avoids, descends_here, descends_up, avoids_up}
use Rattle.detours.proofs.descendants.is_descendant.Goals as goal

pub returns-then-v-head : goal.returns-then-v-head
returns-then-v-head c =
    let l = c.loop-v in
    record { under = λ _. l.invariant.1 (descends_here _ _ l.v c.if-v-head.true); apart = λ e. absurd cc }

pub loop-v-smaller : goal.loop-v-smaller
loop-v-smaller c =
    step_falls c.args.n c.args.root c.loop-v.v c.args.parents.now c.requires.0 (search rules) c.requires.1 (omega arith) c.loop-v-test.true

pub loop-v-preserved : goal.loop-v-preserved
loop-v-preserved c =
    let l = c.loop-v in
    let p = parent_read c.args.n l.v c.args.parents.now c.requires.0 (search rules) l.invariant.0 in
    let up = rooted_tail c.args.n c.args.root l.v c.args.parents.now c.requires.0 (search rules) c.requires.1 l.invariant.0 c.loop-v-test.true in (
      up,
      (λ x. l.invariant.1 (descends_up _ _ l.v (rw (← p) x))),
      (λ x. l.invariant.2 (avoids_up _ _ l.v c.if-v-head.false (rw (← p) x))),
    )

pub returns : goal.returns
returns c =
    let z = c.loop-v-test.false in
    record {
      under = λ e. absurd cc;
      apart =
          λ _. c.loop-v.invariant.2 (rw z (root_avoids c.args.n c.args.root _ c.requires.1 c.requires.0 c.args.head c.requires.2 c.requires.3));
    }
